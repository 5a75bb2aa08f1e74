use Rattle.determinize_nfa.proofs.Common.{drop, map, node_of, ◌++◌, ◌≡◌}
use Rattle.determinize_nfa.proofs.builder.copies.Given as goal

abbrev pub invariant-loop-state : goal.invariant-loop-state
invariant-loop-state g l =
    map node_of l.made.items ++ map node_of (drop l.state-index l.states) ≡ map node_of l.states
