use Rattle.determinize_nfa.proofs.Common.{drop, list_any, nat_eq, ◌≡◌}
use Rattle.determinize_nfa.proofs.prefix.have_target.Given as goal

abbrev pub invariant-loop-t : goal.invariant-loop-t
invariant-loop-t l = list_any (λ t. nat_eq l.id t.next) (drop l.t-index l.transitions)
    ≡ list_any (λ t. nat_eq l.id t.next) l.transitions
