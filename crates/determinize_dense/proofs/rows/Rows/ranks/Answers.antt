use Rattle.determinize_dense.proofs.Common.{arith, get_or-replicate, ℕ}
use Rattle.determinize_dense.proofs.Splitting.{pushed}
use Rattle.determinize_dense.proofs.rows.Rows.ranks.Goals as goal

pub loop-byte-init : goal.loop-byte-init
loop-byte-init g c = λ k h. omega (arith, get_or-replicate {A = ℕ} 256 k 0 0 h)

pub loop-row-preserved : goal.loop-row-preserved
loop-row-preserved g c = grind (arith, pushed)

pub returns : goal.returns
returns g c = grind (arith, c.len-row-end.ensures.sound.table.first 0)
