use Rattle.determinize_below.proofs.Common.{ascends_from, drop, ◌≡◌, ◌≤◌, is_ascending}
use Rattle.determinize_below.proofs.nfa.checks.are_in_order.Given as goal

abbrev pub invariant-loop-t : goal.invariant-loop-t
invariant-loop-t l = record {
  rest : is_ascending l.transitions ≡ ascends_from l.low (drop l.t-index l.transitions);
  low : l.low ≤ 256;
}
