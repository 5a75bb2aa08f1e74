use Rattle.determinize_below.proofs.Common.{drop, find, nat_le, ◌≡◌}
use Rattle.determinize_below.proofs.nfa.transitions.target_in.Given as goal

abbrev pub invariant-loop-t : goal.invariant-loop-t
invariant-loop-t l = find (λ t. nat_le l.byte t.end) (drop l.t-index l.transitions)
    ≡ find (λ t. nat_le l.byte t.end) l.transitions
