use Rattle.determinize_dense.proofs.Common.{arith, get_or-map, length-map}
use Rattle.determinize_dense.proofs.Writing.{write_more}
use Rattle.determinize_dense.proofs.bytes.push_rows.Goals as goal

pub loop-offset-preserved : goal.loop-offset-preserved
loop-offset-preserved g c = grind (arith, write_more, length-map, get_or-map)
