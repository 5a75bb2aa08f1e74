-- Which of several patterns match.
use Rattle.std.specs.Prelude.{◌≡◌, ◌-◌, ◌<◌, ◌≤◌, ◌↔◌, ℕ, Bool, Contains, List, [], false, length}
use Rattle.std.specs.Prelude.{slice_index_or, true}
use Rattle.determinize_below.specs.Search.{Asked, is_done}
use Rattle.determinize_engine.specs.Searches.{text_of}
use Rattle.determinize_pattern.specs.LeftmostOf.{all_ends}
use Rattle.determinize_regex.specs.PatternMatches.{latest_in}
use Rattle.determinize_regex.specs.PatternsAt.{ArePatternsAt}
use Rattle.determinize_regex.specs.Regexes.{RegexValue, meanings}

-- these are the patterns with a match that ends where the range ends, the best first; none if the
-- range starts past its end
pub record AreAtEnd (regex : RegexValue) (asked : Asked) (xs : List ℕ) : Type 0 where
  pub done : is_done asked ≡ true → xs ≡ []
  pub found : is_done asked ≡ false → ArePatternsAt regex.terminator (meanings regex)
      (text_of false asked) (latest_in asked.anchored (asked.end - asked.start))
      (asked.end - asked.start) xs

-- the pattern has a match in the range: anywhere, or from its start by the anchored mode
abbrev pub HasMatchIn : RegexValue → Asked → ℕ → Type 0
HasMatchIn regex asked x = (is_done asked ≡ false) × (k : ℕ) × (i : ℕ)
    × (k ≤ latest_in asked.anchored (asked.end - asked.start))
    × Contains (all_ends regex.terminator (text_of false asked) 0 (meanings regex) k) (x, i)

-- a flag for each pattern: whether it has a match in the range
pub record AreMatching (regex : RegexValue) (asked : Asked) (flags : List Bool) : Type 0 where
  pub count : length flags ≡ length regex.patterns
  pub each : (x : ℕ) → x < length regex.patterns
      → (slice_index_or flags x false ≡ true) ↔ HasMatchIn regex asked x
