use Rattle.determinize_dense.proofs.Common.{arith}
use Rattle.determinize_dense.proofs.rows.Rows.is_settled.Goals as goal

pub loop-row-preserved : goal.loop-row-preserved
loop-row-preserved g c = record {
  below = omega arith;
  settled = λ r h. grind (arith, c.loop-row.invariant.settled r);
}
