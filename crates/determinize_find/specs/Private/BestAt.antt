-- The most preferred match that begins at one index.
use Rattle.std.specs.Prelude.{◌≡◌, ◌-◌, ◌⊎◌, ℕ, List, None, Option, Some, false, option_map}
use Rattle.determinize_below.specs.Semantics.{Nfa, Text}
use Rattle.ordered_reach.specs.Paths.{Before}
use Rattle.determinize_below.specs.Search.{Asked}
use Rattle.determinize_below.specs.declared.search.HalfMatch.{HalfMatch}
use Rattle.determinize_below.specs.declared.search.Match.{Match}
use Rattle.determinize_engine.specs.Searches.{text_of}
use Rattle.determinize_nfa.specs.Runs.{AcceptsFrom}
use Rattle.determinize_nfa.specs.Leftmost.{NothingFrom}
use Rattle.determinize_find.specs.LeftmostIn.{moved}

-- of the runs from a position this is the most preferred that accepts
pub record IsBestFrom (nfa : Nfa) (text : Text) (k : ℕ) (cs : List ℕ) (i pattern : ℕ) : Type 0 where
  pub accepts : AcceptsFrom nfa text k nfa.start_anchored cs i pattern
  pub preferred : (ds : List ℕ) (j other : ℕ)
      → AcceptsFrom nfa text k nfa.start_anchored ds j other → (cs ≡ ds) ⊎ Before cs ds

-- the most preferred match that begins at a position; `None` if no match begins there
abbrev pub IsBestAt : Nfa → Text → ℕ → Option Match → Type 0
IsBestAt nfa text k None = NothingFrom nfa text k
IsBestAt nfa text k (Some m) =
    (m.start ≡ k) × ((cs : List ℕ) × IsBestFrom nfa text k cs m.end m.pattern)

-- the most preferred match that begins at an index of the range, in the haystack
abbrev pub IsBestIn : Nfa → Asked → ℕ → Option Match → Type 0
IsBestIn nfa asked at answer =
    (found : Option Match) × IsBestAt nfa (text_of false asked) (at - asked.start) found
    × (answer ≡ option_map (moved asked.start) found)

-- the match that begins at an index and has this pattern and end
abbrev pub from_index : ℕ → HalfMatch → Match
from_index start m = record { pattern = m.pattern; start = start; end = m.offset }
