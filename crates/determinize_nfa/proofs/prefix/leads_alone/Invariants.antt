use Rattle.determinize_nfa.proofs.Common.{leads_to, state_at, true, ℕ, ◌<◌, ◌≡◌}
use Rattle.determinize_nfa.proofs.prefix.leads_alone.Given as goal

abbrev pub invariant-loop-index : goal.invariant-loop-index
invariant-loop-index g l = (s : ℕ) → s < l.index → leads_to l.id (state_at l.nfa s) ≡ true → s ≡ l.from
