use Rattle.determinize_dense.proofs.Common.{arith}
use Rattle.determinize_dense.proofs.Splitting.{few_blocks, pushed}
use Rattle.determinize_dense.proofs.Merging.{merged-push}
use Rattle.determinize_dense.proofs.rows.Rows.merged_rows.Goals as goal

pub overflow_cast-block : goal.overflow_cast-block
overflow_cast-block g c = omega (arith, few_blocks c.requires.blocks, (rw c.self.view_is at c.self.invariant).table.few)

pub loop-column-preserved : goal.loop-column-preserved
loop-column-preserved g c =
    rw (← c.self.view_is, ← c.alphabet_len-column-end.ensures.count) (grind (arith, pushed, merged-push))
