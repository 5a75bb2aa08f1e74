use Rattle.determinize_below.proofs.Common.{drop, looks_of, map, node_of, with_looks_of, ◌≡◌}
use Rattle.determinize_below.proofs.nfa.checks.looks_in.Given as goal

abbrev pub invariant-loop-state : goal.invariant-loop-state
invariant-loop-state g l =
    looks_of (map node_of l.states) ≡ with_looks_of l.looks (map node_of (drop l.state-index l.states))
