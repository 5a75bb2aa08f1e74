-- The states of a reversed NFA.
use Rattle.std.specs.Prelude.{◌++◌, ◌∷◌, List, [], map, ℕ}
use Rattle.determinize_below.specs.Semantics.{Node, Capture, Fail, Match, Union}
use Rattle.determinize_nfa.specs.Private.Turning.{Turned}

-- a state with transitions to these ids, without input
abbrev pub gathered : List ℕ → Node
gathered [] = Fail
gathered (x ∷ []) = Capture x
gathered (x ∷ y ∷ zs) = Union (x ∷ y ∷ zs)

-- the states: those of the NFA, a match state, the start state, and then the ranges and assertions
abbrev pub states_of : Turned → List Node
states_of h = map gathered h.into ++ Match 0 ∷ Union h.ends ∷ h.rest
