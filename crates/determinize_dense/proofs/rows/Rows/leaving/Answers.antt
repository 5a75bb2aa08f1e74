use Rattle.determinize_dense.proofs.Common.{refl}
use Rattle.determinize_dense.proofs.Staying.{staying-all}
use Rattle.determinize_dense.proofs.rows.Rows.leaving.Goals as goal

pub returns-then-row-last : goal.returns-then-row-last
returns-then-row-last g c = rw c.all.ensures (staying-all c.args.self.now.table c.args.row)

pub loop-byte-init : goal.loop-byte-init
loop-byte-init g c = record { count = refl; staying = staying-all c.args.self.now.table c.args.row }
