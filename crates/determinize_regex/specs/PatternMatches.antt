-- The leftmost match of patterns in an input, and all their matches.
use Rattle.std.specs.Prelude.{◌≡◌, ◌-◌, ℕ, List, Option, None, false, option_map, true}
use Rattle.determinize_below.specs.Search.{Asked, is_done}
use Rattle.determinize_below.specs.declared.search.Anchored.{Anchored}
use Rattle.determinize_below.specs.declared.search.Anchored.TheVariants.{No, Pattern, Yes}
use Rattle.determinize_below.specs.declared.search.Match.{Match}
use Rattle.determinize_engine.specs.Searches.{text_of}
use Rattle.determinize_find.specs.LeftmostIn.{moved}
use Rattle.determinize_find.specs.Matches.{AreMatchesBy}
use Rattle.determinize_pattern.specs.LeftmostOf.{IsLeftmostOf}
use Rattle.determinize_pattern.specs.Meaning.{Re}

-- the last position of a range of n bytes at which a match may begin
abbrev pub latest_in : Anchored → ℕ → ℕ
latest_in No n = n
latest_in Yes n = 0
latest_in (Pattern pattern) n = 0

-- the leftmost match of the patterns in the input, with indices of the haystack; `None` if the
-- range starts past its end
pub record IsLeftmostOfIn (terminator : ℕ) (res : List Re) (asked : Asked)
    (answer : Option Match) : Type 0 where
  pub done : is_done asked ≡ true → answer ≡ None
  pub found : is_done asked ≡ false
      → (m : Option Match)
      × IsLeftmostOf terminator res (text_of false asked)
      (latest_in asked.anchored (asked.end - asked.start)) m
      × (answer ≡ option_map (moved asked.start) m)

-- these are the matches of the patterns from the start of the range on, and there are no more
abbrev pub AreMatchesOf : ℕ → List Re → Asked → Option ℕ → List Match → Type 0
AreMatchesOf terminator res = AreMatchesBy (IsLeftmostOfIn terminator res)
