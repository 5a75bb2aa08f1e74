-- The tokens of a text, by what its patterns match.
use Rattle.std.specs.Prelude.{◌≡◌, ◌-◌, ◌<◌, ◌≤◌, ℕ, Contains, List, [], ◌∷◌, false}
use Rattle.determinize_below.specs.Search.{Asked}
use Rattle.determinize_below.specs.declared.search.Match.{Match}
use Rattle.determinize_engine.specs.Searches.{text_of}
use Rattle.determinize_find.specs.Matches.{from}
use Rattle.determinize_pattern.specs.LeftmostOf.{all_ends}
use Rattle.determinize_pattern.specs.Meaning.{Re}

-- the pattern matches the first n bytes of the range
abbrev pub MatchesFirst : ℕ → List Re → Asked → ℕ → ℕ → Type 0
MatchesFirst t res asked pattern n =
    Contains (all_ends t (text_of false asked) 0 res 0) (pattern, n)

-- the token where a range starts: the longest match that begins there, of one byte or more, and of
-- the patterns that match the same bytes the first
pub record IsTokenOf (t : ℕ) (res : List Re) (asked : Asked) (m : Match) : Type 0 where
  pub start : m.start ≡ asked.start
  pub nonempty : m.start < m.end
  pub matches : MatchesFirst t res asked m.pattern (m.end - m.start)
  pub longest : (pattern n : ℕ) → MatchesFirst t res asked pattern n → n ≤ m.end - m.start
  pub first : (pattern : ℕ) → MatchesFirst t res asked pattern (m.end - m.start)
      → m.pattern ≤ pattern

-- no pattern matches one byte or more where the range starts
abbrev pub HasNoTokenOf : ℕ → List Re → Asked → Type 0
HasNoTokenOf t res asked = (pattern n : ℕ) → MatchesFirst t res asked pattern n → n ≡ 0

-- the tokens from the start of a range on: each begins where the one before it ends, and none
-- begins where the last one ends
abbrev pub AreTokensOf : ℕ → List Re → Asked → List Match → Type 0
AreTokensOf t res asked [] = HasNoTokenOf t res asked
AreTokensOf t res asked (m ∷ ms) =
    IsTokenOf t res asked m × AreTokensOf t res (from asked m.end) ms
