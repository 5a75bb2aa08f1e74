use Rattle.determinize_below.proofs.Common.{drop, list_all, nat_lt, ◌≡◌}
use Rattle.determinize_below.proofs.nfa.checks.have_targets_below.Given as goal

abbrev pub invariant-loop-t : goal.invariant-loop-t
invariant-loop-t l = list_all (λ t. nat_lt t.next l.count) (drop l.t-index l.transitions)
    ≡ list_all (λ t. nat_lt t.next l.count) l.transitions
