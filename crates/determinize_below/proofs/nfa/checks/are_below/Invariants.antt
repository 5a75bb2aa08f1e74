use Rattle.determinize_below.proofs.Common.{drop, list_all, nat_lt, ◌≡◌}
use Rattle.determinize_below.proofs.nfa.checks.are_below.Given as goal

abbrev pub invariant-loop-id : goal.invariant-loop-id
invariant-loop-id l =
    list_all (λ i. nat_lt i l.count) (drop l.id-index l.ids) ≡ list_all (λ i. nat_lt i l.count) l.ids
