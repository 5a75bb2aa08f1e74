-- The scratch of a transition.
use Rattle.std.specs.Prelude.{◌≡◌, ℕ, List, [], length}
use Rattle.determinize_below.specs.Members.{Members}
use Rattle.determinize_below.specs.Semantics.{Nfa}

-- both sets have the capacity of the NFA, and the stack is empty; the contents of the sets are
-- arbitrary
pub record IsScratch (nfa : Nfa) (first second : Members) (stack : List ℕ) : Type 0 where
  pub first_room : first.capacity ≡ length nfa.states
  pub second_room : second.capacity ≡ length nfa.states
  pub empty : stack ≡ []
