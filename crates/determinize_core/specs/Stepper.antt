-- What a stepper is seen as, and its scratch.
use Rattle.std.specs.Prelude.{◌≡◌, length}
use Rattle.determinize_below.specs.Members.{Members}
use Rattle.determinize_below.specs.Nfa.{IsAccepted}
use Rattle.determinize_below.specs.Semantics.{Nfa}
use Rattle.determinize_below.specs.declared.search.MatchKind.{MatchKind}

-- the NFA and the match kind of its steps
pub record StepperValue : Type 0 where
  pub nfa : Nfa
  pub kind : MatchKind

-- the NFA is valid, and both sets have its capacity
pub record IsPrepared (nfa : Nfa) (first second : Members) : Type 0 where
  pub accepted : IsAccepted nfa
  pub first_room : first.capacity ≡ length nfa.states
  pub second_room : second.capacity ≡ length nfa.states
