use Rattle.determinize_dense.proofs.Common.{arith}
use Rattle.determinize_dense.proofs.dfa.Dfa.scan_upto.Goals as goal

pub loop-read-preserved : goal.loop-read-preserved
loop-read-preserved g c = grind arith
