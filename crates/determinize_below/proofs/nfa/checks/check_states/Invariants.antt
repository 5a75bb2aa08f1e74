use Rattle.determinize_below.proofs.Common.{[], contains, drop, is_match_of, length, list_any, map, nat_eq, node_of, states_failure, take, ℕ, ◌≡◌}
use Rattle.determinize_below.proofs.nfa.checks.check_states.Given as goal

abbrev pub invariant-loop-index : goal.invariant-loop-index
invariant-loop-index g l = record {
  same : states_failure (length l.states) [] 0 (map node_of l.states) ≡ states_failure (length l.states)
      (take l.index (map node_of l.states)) l.index (drop l.index (map node_of l.states));
  seen : (q : ℕ) → contains nat_eq l.seen q ≡ list_any (is_match_of q) (take l.index (map node_of l.states));
}
