use Rattle.determinize_nfa.proofs.Common.{All, all_visited, length, map, next_of, node_of, targets_in, ◌<◌, ◌≡◌}
use Rattle.determinize_nfa.specs.Private.Arcs.{arcs_from}
use Rattle.determinize_nfa.proofs.reached.visit_targets.Given as goal

abbrev pub invariant-loop-arc : goal.invariant-loop-arc
invariant-loop-arc g l = record {
  capacity : l.found.capacity ≡ l.fn.found.capacity;
  rest : all_visited l.fn.found.ids (targets_in (node_of l.state)) ≡ all_visited l.found.ids (map next_of
      (arcs_from l.from (node_of l.state)));
  below : All (λ a. next_of a < l.fn.found.capacity) (arcs_from l.from (node_of l.state));
}

abbrev pub decreases-loop-arc : goal.decreases-loop-arc
decreases-loop-arc g l = length (arcs_from l.from (node_of l.state))
