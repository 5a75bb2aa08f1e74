use Rattle.determinize_below.proofs.sets.SparseSets.{sparse_none}
use Rattle.determinize_below.proofs.sparse_set.SparseSet.new.Goals as goal

pub invariant_of-result : goal.invariant_of-result
invariant_of-result g c =
    sparse_none _ _ _ _ c.div_ceil.result c.in_ok-ids.ensures.items
    (c.in_ok-bits.ensures.items_if_clones_equal (λ y e. e)) c.div_ceil.ensures c.requires c.in_ok-ids.ensures.capacity
