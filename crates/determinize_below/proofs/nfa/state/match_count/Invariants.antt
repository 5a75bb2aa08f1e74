use Rattle.determinize_below.proofs.Common.{drop, node_of, ◌+◌, ◌≡◌, ◌≤◌}
use Rattle.std.specs.Prelude.{count_by}
use Rattle.determinize_below.specs.Edges.{is_match_node}
use Rattle.determinize_below.proofs.nfa.state.match_count.Given as goal

abbrev pub invariant-loop-state : goal.invariant-loop-state
invariant-loop-state g l = record {
  counted : l.count + count_by (λ s. is_match_node (node_of s)) (drop l.state-index l.states)
      ≡ count_by (λ s. is_match_node (node_of s)) l.states;
  small : l.count ≤ l.state-index;
}
