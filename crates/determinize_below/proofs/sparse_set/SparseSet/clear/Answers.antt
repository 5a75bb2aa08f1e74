use Rattle.determinize_below.proofs.Common.{arith}
use Rattle.determinize_below.proofs.sets.SparseSets.{sparse_clear}
use Rattle.determinize_below.proofs.sparse_set.SparseSet.clear.Goals as goal

pub invariant_of-self : goal.invariant_of-self
invariant_of-self g c =
    sparse_clear c.self.invariant c.deref_mut.result.now c.clear_bits.new.words _ _ c.deref_mut.ensures.value
    (omega arith) (omega arith) c.deref.result.now c.clear.new.self.items _ c.deref.ensures.value c.clear.ensures.items
    (omega (arith, c.clear.ensures.capacity)) c.clear_bits.ensures
