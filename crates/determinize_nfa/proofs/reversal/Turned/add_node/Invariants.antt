use Rattle.determinize_nfa.proofs.Common.{All, arcs_of, length, next_of, node_of, with_arcs, ◌<◌, ◌≡◌}
use Rattle.determinize_nfa.specs.Private.Arcs.{arcs_from}
use Rattle.determinize_nfa.proofs.reversal.Turned.add_node.Given as goal

abbrev pub invariant-loop-arc : goal.invariant-loop-arc
invariant-loop-arc g l = record {
  count : length l.self.into ≡ length l.fn.self.into;
  rest : with_arcs l.fn.self l.id (arcs_of (node_of l.state))
      ≡ with_arcs l.self l.id (arcs_from l.from (node_of l.state));
  below : All (λ arc. next_of arc < length l.fn.self.into) (arcs_from l.from (node_of l.state));
}

abbrev pub decreases-loop-arc : goal.decreases-loop-arc
decreases-loop-arc g l = length (arcs_from l.from (node_of l.state))
