use Rattle.determinize_nfa.proofs.Common.{drop, node_of, ◌+◌, ◌≡◌}
use Rattle.std.specs.List.{position_or_len}
use Rattle.determinize_nfa.specs.Builder.{has_transition_to}
use Rattle.determinize_nfa.proofs.builder.first_to.Given as goal

abbrev pub invariant-loop-index : goal.invariant-loop-index
invariant-loop-index g l =
    l.index + position_or_len (λ s. has_transition_to l.id l.other (node_of s)) (drop l.index l.states)
    ≡ position_or_len (λ s. has_transition_to l.id l.other (node_of s)) l.states
