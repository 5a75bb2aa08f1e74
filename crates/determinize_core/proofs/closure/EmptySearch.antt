-- Searches from no root, and searches into an empty set.
-- Main statements: reach-none, reach_past-empty, tries_left-empty.
-- Used by: StepParts, ReopenedClosure, and the crates above.
-- Idea: nothing is pending, so nothing is added.
use Rattle.determinize_core.proofs.Common.{[], Assertion, Bool, List, Nfa, reach, reach_past, refl, tries_left}
use Rattle.determinize_core.proofs.Common.{tries_of, ℕ, ◌≡◌}

-- without roots nothing is reached
pub reach-none : (nfa : Nfa) (holds : Assertion → Bool) → reach nfa holds [] ≡ []
unfolding reach
reach-none nfa holds = refl

-- a search into an empty set
pub reach_past-empty : (nfa : Nfa) (holds : Assertion → Bool) (roots : List ℕ)
    → reach_past nfa holds [] roots ≡ reach nfa holds roots
unfolding reach reach_past
reach_past-empty nfa holds roots = refl

pub tries_left-empty : (nfa : Nfa) (holds : Assertion → Bool) (roots : List ℕ)
    → tries_left nfa holds [] roots ≡ tries_of nfa holds roots
unfolding reach reach_past
tries_left-empty nfa holds roots = refl
