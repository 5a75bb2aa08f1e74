use Rattle.determinize_dense.proofs.Common.{sym}
use Rattle.determinize_dense.proofs.Offsets.{row-of}
use Rattle.determinize_dense.proofs.reading.DfaAutomaton.row_id.Goals as goal

pub returns : goal.returns
returns g c = rw (← c.row.view_is) (sym (row-of c.args.self.now.table c.row_number.ensures.row.1))
