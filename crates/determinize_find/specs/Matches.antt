-- All matches of an input.
use Rattle.std.specs.Prelude.{◌≡◌, ◌+◌, ◌<◌, ◌≤◌, ◌⊎◌, ℕ, Bool, List, None, Option, Some, [], ◌∷◌, false, nat_eq, true}
use mathlib.Core.Bool.{◌&&◌}
use Rattle.determinize_below.specs.Semantics.{Nfa}
use Rattle.determinize_below.specs.Search.{Asked}
use Rattle.determinize_below.specs.declared.search.Match.{Match}
use Rattle.determinize_engine.specs.Searches.{text_of}
use Rattle.determinize_nfa.specs.Runs.{AcceptsFrom}
use Rattle.determinize_find.specs.LeftmostIn.{IsLeftmostIn}

-- the input whose range starts at this index
abbrev pub from : Asked → ℕ → Asked
from asked start = record asked { start = start }

-- whether a match is empty and begins where the one before it ended
abbrev pub touches : Option ℕ → Match → Bool
touches None m = false
touches (Some end) m = nat_eq m.start m.end && nat_eq m.end end

-- whether there is a match and it touches the one before it
abbrev pub is_touching : Option ℕ → Option Match → Bool
is_touching before None = false
is_touching before (Some m) = touches before m

-- the leftmost match; if it touches the one before, the leftmost match from one byte further on
abbrev pub IsTakenBy : (Asked → Option Match → Type 0) → Asked → Option ℕ → Option Match
    → Option Match → Type 0
IsTakenBy IsFirst asked before None found = found ≡ None
IsTakenBy IsFirst asked before (Some m) found =
    (touches before m ≡ true → IsFirst (from asked (asked.start + 1)) found)
    × (touches before m ≡ false → found ≡ Some m)

-- the match after one that ended at `before`
abbrev pub IsNextBy : (Asked → Option Match → Type 0) → Asked → Option ℕ → Option Match → Type 0
IsNextBy IsFirst asked before found =
    (first : Option Match) × IsFirst asked first × IsTakenBy IsFirst asked before first found

-- these are the matches from the start of the range on, and there are no more, where `IsFirst` says
-- which match of an input is the leftmost one
abbrev pub AreMatchesBy : (Asked → Option Match → Type 0) → Asked → Option ℕ → List Match → Type 0
AreMatchesBy IsFirst asked before [] = IsNextBy IsFirst asked before None
AreMatchesBy IsFirst asked before (m ∷ ms) =
    IsNextBy IsFirst asked before (Some m) × AreMatchesBy IsFirst (from asked m.end) (Some m.end) ms

-- the same of the runs of an NFA
abbrev pub IsTaken : Nfa → Asked → Option ℕ → Option Match → Option Match → Type 0
IsTaken nfa = IsTakenBy (IsLeftmostIn nfa)

abbrev pub IsNext : Nfa → Asked → Option ℕ → Option Match → Type 0
IsNext nfa = IsNextBy (IsLeftmostIn nfa)

abbrev pub AreMatches : Nfa → Asked → Option ℕ → List Match → Type 0
AreMatches nfa = AreMatchesBy (IsLeftmostIn nfa)

-- some run from the anchored start that accepts begins at this index of the haystack
abbrev pub BeginsAt : Nfa → Asked → ℕ → Type 0
BeginsAt nfa asked at = (k : ℕ) × (asked.start + k ≡ at) × (cs : List ℕ) × (i : ℕ) × (pattern : ℕ)
    × AcceptsFrom nfa (text_of false asked) k nfa.start_anchored cs i pattern

-- the leftmost match from this index on begins and ends here
abbrev pub IsEmptyAt : Nfa → Asked → ℕ → Type 0
IsEmptyAt nfa asked at = (pattern : ℕ)
    × IsLeftmostIn nfa (from asked at) (Some record { pattern = pattern; start = at; end = at })

-- the index is in the match, or at its end and the leftmost match from there on is empty
abbrev pub Covers : Nfa → Asked → ℕ → Match → Type 0
Covers nfa asked at m =
    (m.start ≤ at) × ((at < m.end) ⊎ ((m.end ≡ at) × IsEmptyAt nfa asked at))

-- each match is in the range, begins at the end of the one before it or later, and ends later
abbrev pub AreApart : ℕ → Option ℕ → ℕ → List Match → Type 0
AreApart start before end [] = Unit {0}
AreApart start before end (m ∷ ms) =
    (start ≤ m.start) × (m.start ≤ m.end) × (m.end ≤ end)
    × ((last : ℕ) → before ≡ Some last → last < m.end) × AreApart m.end (Some m.end) end ms
