-- The laws of the epsilon closure of a valid NFA.
use Rattle.std.specs.Prelude.{Bool, List, [], ℕ, ◌≡◌}
use Rattle.determinize_below.specs.declared.look.Look.{Look as Assertion}
use Rattle.determinize_below.specs.Edges.{edges, reach, reach_past}
use Rattle.determinize_below.specs.Nfa.{IsAccepted}
use Rattle.determinize_below.specs.Semantics.{Nfa}
use Rattle.ordered_reach.specs.Paths.{IsInOrderOfReach, IsListedInTurn}

-- the epsilon closure of a valid NFA is in the order of least paths, for any roots
abbrev pub EachNfaReachIsInOrder : Type 0
EachNfaReachIsInOrder = (nfa : Nfa) → IsAccepted nfa
    → (holds : Assertion → Bool) (held roots : List ℕ)
    → IsInOrderOfReach (edges nfa holds) held roots (reach_past nfa holds held roots)

-- no other list is in that order
abbrev pub EachNfaReachIsOne : Type 0
EachNfaReachIsOne = (nfa : Nfa) → IsAccepted nfa
    → (holds : Assertion → Bool) (held roots xs : List ℕ)
    → IsInOrderOfReach (edges nfa holds) held roots xs → xs ≡ reach_past nfa holds held roots

-- the epsilon closure can be computed root by root
abbrev pub EachNfaReachIsInTurn : Type 0
EachNfaReachIsInTurn = (nfa : Nfa) → IsAccepted nfa
    → (holds : Assertion → Bool) (held roots : List ℕ)
    → IsListedInTurn (edges nfa holds) held roots (reach_past nfa holds held roots)

-- an epsilon closure with no state visited before
abbrev pub EachReachIsPastNothing : Type 0
EachReachIsPastNothing = (nfa : Nfa) (holds : Assertion → Bool) (roots : List ℕ)
    → reach nfa holds roots ≡ reach_past nfa holds [] roots
