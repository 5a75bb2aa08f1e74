use Rattle.determinize_below.proofs.Common.{◌≡◌, ◌∙◌, arith, false, has_bit, sym}
use Rattle.determinize_below.proofs.sets.SparseSets.{room_for_one, sparse_again, sparse_push}
use Rattle.determinize_below.proofs.sparse_set.SparseSet.insert.Goals as goal

pub push_reserved-requires : goal.push_reserved-requires
push_reserved-requires g c =
    let unset : has_bit c.deref_mut.result.now c.args.id ≡ false = sym c.set_bit.ensures.before ∙ c.if-set_bit.false in
    omega (
      arith,
      room_for_one _ _ _ _ _ c.self.invariant (rw (← c.self.view_is) at c.requires)
          (rw c.deref_mut.ensures.value at unset),
      c.self.inside.ids.ok,
    )

pub invariant_of-self : goal.invariant_of-self
invariant_of-self g c =
    sparse_again c.self.invariant c.deref_mut.result.now c.set_bit.new.words _ _ c.deref_mut.ensures.value (omega arith)
    (omega arith) c.args.id c.set_bit.ensures.after (sym c.set_bit.ensures.before ∙ c.if-set_bit.true)

pub invariant_of-self-2 : goal.invariant_of-self-2
invariant_of-self-2 g c =
    sparse_push c.self.invariant c.deref_mut.result.now c.set_bit.new.words _ _ c.deref_mut.ensures.value (omega arith)
    (omega arith) c.args.id c.set_bit.ensures.after (sym c.set_bit.ensures.before ∙ c.if-set_bit.false)
    (rw (← c.self.view_is) at c.requires) c.push_reserved.new.self.items _ c.push_reserved.ensures.items
    (omega (arith, c.push_reserved.ensures.capacity))

pub returns-clause-members : goal.returns-clause-members
returns-clause-members g c = record {
  distinct = (invariant_of-self-2 g c).distinct;
  below = (invariant_of-self-2 g c).below;
}
