use Rattle.determinize_nfa.proofs.Common.{IfErr-weaker, arith, if_err_and, inl, length-map, ◌+◌}
use Rattle.determinize_nfa.proofs.Limits.{too_many}
use Rattle.determinize_nfa.proofs.reversal.Turned.add_state.Goals as goal

pub returns-in_err-id-clause-err : goal.returns-in_err-id-clause-err
returns-in_err-id-clause-err g c = if_err_and c.from_residual.result _ _
    (too_many (c.len.result + 2 + c.len-2.result) _ (rw (← c.self.view_is) (simp length-map (omega arith)))
    c.in_err-id.ensures.ok)
    c.from_residual.ensures.1

pub returns-clause-err : goal.returns-clause-err
returns-clause-err g c = IfErr-weaker c.add.result _ _ (λ e memory. inl memory) c.add.ensures.err
