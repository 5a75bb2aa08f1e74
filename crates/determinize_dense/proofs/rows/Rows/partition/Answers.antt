use Rattle.determinize_dense.proofs.Common.{arith}
use Rattle.determinize_dense.proofs.Refining.{settled-more}
use Rattle.determinize_dense.proofs.Splitting.{few_blocks}
use Rattle.determinize_dense.proofs.rows.Rows.partition.Goals as goal

pub loop-column-init : goal.loop-column-init
loop-column-init g c = record { partition = c.in_ok-parts.ensures }

pub loop-column-2-init : goal.loop-column-2-init
loop-column-2-init g c = record {
  partition = c.loop-column.invariant.partition;
  more = omega (arith, c.len-count.ensures.value);
  settled = λ _ q h. absurd (omega (arith, h));
}

pub loop-column-2-preserved : goal.loop-column-2-preserved
loop-column-2-preserved g c =
    let so_far = c.loop-column-2.invariant in record {
      partition = c.in_ok-parts-2.ensures.partition;
      more = omega (arith, so_far.more, c.in_ok-parts-2.ensures.more);
      settled = settled-more so_far.more so_far.settled c.in_ok-parts-2.ensures;
    }

pub loop-column-smaller : goal.loop-column-smaller
loop-column-smaller g c = grind (arith, few_blocks)

pub loop-column-preserved : goal.loop-column-preserved
loop-column-preserved g c = record { partition = c.loop-column-2.invariant.partition }

pub returns-then-len-count-clause-partition : goal.returns-then-len-count-clause-partition
returns-then-len-count-clause-partition g c = c.loop-column-2.invariant.partition

pub returns-then-len-count-clause-stable : goal.returns-then-len-count-clause-stable
returns-then-len-count-clause-stable g c = λ q h. grind arith
