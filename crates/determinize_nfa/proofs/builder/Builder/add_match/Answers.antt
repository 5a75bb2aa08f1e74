use Rattle.determinize_nfa.proofs.Common.{arith, if_err_and, length-map, node_of, refl}
use Rattle.determinize_nfa.proofs.Limits.{no_memory, too_many}
use Rattle.determinize_nfa.proofs.builder.Builder.add_match.Goals as goal

pub returns-in_err-id-clause-err : goal.returns-in_err-id-clause-err
returns-in_err-id-clause-err g c = if_err_and c.from_residual.result _ _
    (too_many c.len.result _ (rw (← c.self.view_is, length-map c.self.inside.states.items node_of) (omega arith))
    c.in_err-id.ensures.ok)
    c.from_residual.ensures.1

pub must-pattern_id-requires : goal.must-pattern_id-requires
must-pattern_id-requires g c = omega (arith, c.in_ok-id.ensures.ok.0, c.self.invariant)

pub overflow_add-self : goal.overflow_add-self
overflow_add-self g c = omega (arith, c.in_ok-id.ensures.ok.0, c.self.invariant)

pub returns-in_err-push_state-clause-failed : goal.returns-in_err-push_state-clause-failed
returns-in_err-push_state-clause-failed g c = if_err_and c.from_residual-in_err-push_state.result _ _
    (λ e h. rw (← c.self.view_is, c.in_err-push_state.ensures.items) refl)
    c.from_residual-in_err-push_state.ensures.1

pub returns-in_err-push_state-clause-err : goal.returns-in_err-push_state-clause-err
returns-in_err-push_state-clause-err g c =
    no_memory c.from_residual-in_err-push_state.result _ c.from_residual-in_err-push_state.ensures.1

pub invariant_of-self : goal.invariant_of-self
invariant_of-self g c = rw c.in_err-push_state.ensures.items c.self.invariant

pub returns-clause-id : goal.returns-clause-id
returns-clause-id g c =
    rw (← c.self.view_is, length-map c.self.inside.states.items node_of) (omega (arith, c.in_ok-id.ensures.ok.1))

pub returns-clause-added : goal.returns-clause-added
returns-clause-added g c = rw (← c.self.view_is, c.in_ok-push_state.ensures.nodes, c.must-pattern_id.ensures) refl
