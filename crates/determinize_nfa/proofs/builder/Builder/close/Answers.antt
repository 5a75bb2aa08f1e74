use Rattle.determinize_nfa.proofs.Common.{NotPatchable, ap, arith, inl, inr, length-map, length-set}
use Rattle.determinize_nfa.proofs.Common.{if_err_and, map-set, node_of, refl, sym, ◌∙◌}
use Rattle.determinize_nfa.proofs.building.Building.{node_is, same_node}
use Rattle.determinize_nfa.proofs.builder.Builder.close.Goals as goal

pub returns-then-not-is_empty_union-clause-err : goal.returns-then-not-is_empty_union-clause-err
returns-then-not-is_empty_union-clause-err g c = inl (
  rw (node_is _ _ c.self.view_is c.as_usize-index.ensures.value
      (omega (arith, c.if-index-len.false, c.len.ensures, c.self.inside.states.ok.0))
      c.index.result.now c.index.ensures)
      (sym c.is_empty_union.ensures ∙ c.if-not-is_empty_union.true),
  ap NotPatchable c.as_usize-index.ensures.value,
)

pub returns-in_err-alternates-clause-err : goal.returns-in_err-alternates-clause-err
returns-in_err-alternates-clause-err g c =
    if_err_and c.from_residual.result _ _ (λ e h. inr h) c.from_residual.ensures.1

pub set_alternates-requires : goal.set_alternates-requires
set_alternates-requires g c =
    rw (same_node _ _ c.self.view_is c.as_usize-index.ensures.value
    (omega (arith, c.if-index-len.false, c.len.ensures, c.self.inside.states.ok.0))
    c.index_mut.result.now c.index.result.now c.index_mut.ensures.value c.index.ensures)
    (sym c.is_empty_union.ensures ∙ c.if-not-is_empty_union.false)

pub invariant_of-self : goal.invariant_of-self
invariant_of-self g c = simp length-set c.self.invariant

pub returns-clause-closed : goal.returns-clause-closed
returns-clause-closed g c =
    rw (
      ← c.self.view_is,
      ← c.as_usize-index.ensures.value,
      map-set node_of c.self.inside.states.items c.as_usize-index.result c.set_alternates.new.state,
      c.set_alternates.ensures,
      c.in_ok-alternates.ensures.items,
    ) refl

pub returns-clause-place : goal.returns-clause-place
returns-clause-place g c =
    rw (node_is _ _ c.self.view_is c.as_usize-index.ensures.value
    (omega (arith, c.if-index-len.false, c.len.ensures, c.self.inside.states.ok.0)) c.index.result.now c.index.ensures)
    (sym c.is_empty_union.ensures ∙ c.if-not-is_empty_union.false)

pub returns-clause-count : goal.returns-clause-count
returns-clause-count g c = rw (← c.self.view_is) (simp (length-map, length-set))
