-- The last match of a walk, and what it is by the runs of the NFA.
use Rattle.std.specs.Option.{option_map}
use Rattle.std.specs.Prelude.{◌≤◌, ℕ, Option, Some, None, List, [], ◌∷◌, map, slice_get}
use Rattle.determinize_below.specs.Semantics.{Nfa, Text, Accepts, IsPreferredRun}
use Rattle.determinize_below.specs.declared.search.HalfMatch.{HalfMatch}
use Rattle.determinize_core.specs.Walk.{ListsAccepted, last_listed}
use Rattle.determinize_state.specs.Value.{Value}

-- the patterns that the values list
abbrev pub lists_of : List Value → List (List ℕ)
lists_of values = map (λ (v : Value). v.patterns) values

-- the match of the first of some patterns at an offset; `None` if there is no pattern
abbrev pub ended_at : ℕ → List ℕ → Option HalfMatch
ended_at offset patterns =
    option_map (λ pattern. record { pattern = pattern; offset = offset }) (slice_get patterns 0)

-- the first pattern of the last value that lists one, and the index of that value, counted from n
abbrev pub last_ended : ℕ → List Value → Option HalfMatch
last_ended n values = last_listed n (lists_of values)

-- the last match of a walk: the value at index i + 1 has the matches at position i
abbrev pub last_match : List Value → Option HalfMatch
last_match [] = None
last_match (first ∷ others) = last_ended 0 others

-- the pattern and the end of the most preferred of all accepting runs; `None` if no run accepts
abbrev pub IsPreferredMatch : Nfa → ℕ → Text → Option HalfMatch → Type 0
IsPreferredMatch nfa start text None = (cs : List ℕ) (i pattern : ℕ)
    → Accepts nfa text start cs i pattern → ⊥
IsPreferredMatch nfa start text (Some m) =
    (cs : List ℕ) × IsPreferredRun nfa text start cs m.offset m.pattern

-- the last position at which a run accepts, and the pattern of the best run that accepts there;
-- `None` if no run accepts
abbrev pub IsFarthestMatch : Nfa → ℕ → Text → Option HalfMatch → Type 0
IsFarthestMatch nfa start text None = (cs : List ℕ) (i pattern : ℕ)
    → Accepts nfa text start cs i pattern → ⊥
IsFarthestMatch nfa start text (Some m) =
    ((others : List ℕ) × ListsAccepted nfa text start m.offset (m.pattern ∷ others))
    × ((cs : List ℕ) (i pattern : ℕ) → Accepts nfa text start cs i pattern → i ≤ m.offset)
