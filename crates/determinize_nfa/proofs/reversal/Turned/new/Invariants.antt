use Rattle.determinize_nfa.proofs.Common.{[], map, replicate, ◌≡◌}
use Rattle.determinize_nfa.proofs.reversal.Turned.new.Given as goal

abbrev pub invariant-loop : goal.invariant-loop
invariant-loop g l = map (λ v. v.items) l.into.items ≡ replicate l.counter []
