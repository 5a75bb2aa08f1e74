use Rattle.determinize_dense.proofs.Common.{add-zero, arith, length-replicate, ◌≡◌}
use Rattle.determinize_dense.proofs.Ordering.{ordering-blocks, ordering-by_rank, ordering-push, ordering-skip}
use Rattle.determinize_dense.proofs.partition.Partition.by_rank.Goals as goal

pub loop-rank-init : goal.loop-rank-init
loop-rank-init g c = grind (arith, length-replicate)

pub loop-row-init : goal.loop-row-init
loop-row-init g c = record { below = omega arith; ordering = rw add-zero c.loop-rank.invariant.ordering }

pub loop-row-preserved : goal.loop-row-preserved
loop-row-preserved g c = record {
  below = omega (arith, c.loop-row-test.true);
  ordering = elim c.if-ranks-row.branch [
    | goal.then-ranks-row+in_ok-push w ↦ rw (w.members-is, w.blocks-is) (grind (
      arith,
      w.in_ok-push.ensures.items,
      w.len.ensures,
      ordering-push c.loop-rank.rank c.loop-row.row c.loop-row.invariant.ordering,
    ))
    | goal.else-ranks-row w ↦ rw (w.members-is, w.blocks-is) (ordering-skip c.loop-rank.rank c.loop-row.row
        c.loop-row.invariant.ordering c.loop-row-test.true w.if-ranks-row.false)
  ];
}

pub invariant_of-result : goal.invariant_of-result
invariant_of-result g c =
    let all : c.loop-rank.rank ≡ 4 = omega (arith, c.loop-rank.invariant.below, c.loop-rank-test.false) in
    ordering-blocks (rw all at c.loop-rank.invariant.ordering) c.requires.few c.requires.some c.requires.first

pub returns : goal.returns
returns g c =
    let all : c.loop-rank.rank ≡ 4 = omega (arith, c.loop-rank.invariant.below, c.loop-rank-test.false) in
    ordering-by_rank (rw all at c.loop-rank.invariant.ordering) c.requires.few c.requires.some c.requires.first
