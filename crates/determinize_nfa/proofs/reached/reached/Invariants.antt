use Rattle.determinize_nfa.proofs.Common.{length, ◌-◌, ◌≡◌}
use Rattle.determinize_nfa.proofs.reversing.FoundStates.{IsFound}
use Rattle.determinize_nfa.proofs.reached.reached.Given as goal

abbrev pub invariant-loop-index : goal.invariant-loop-index
invariant-loop-index g l = record {
  capacity : l.found.capacity ≡ length l.nfa.states;
  found : IsFound l.nfa l.found.ids l.index;
}

abbrev pub decreases-loop-index : goal.decreases-loop-index
decreases-loop-index g l = length l.nfa.states - l.index
