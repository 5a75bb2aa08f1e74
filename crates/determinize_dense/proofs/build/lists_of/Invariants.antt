use Rattle.determinize_dense.proofs.Common.{lists_of, map, take, ◌≡◌}
use Rattle.determinize_dense.proofs.build.lists_of.Given as goal

abbrev pub invariant-loop-state : goal.invariant-loop-state
invariant-loop-state g l = record {
  lists : map (λ list. list.items) l.lists.items ≡ lists_of (take l.state-index l.states);
}
