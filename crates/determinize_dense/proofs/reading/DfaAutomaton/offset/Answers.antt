use Rattle.determinize_dense.proofs.Offsets.{row-of}
use Rattle.determinize_dense.proofs.reading.DfaAutomaton.offset.Goals as goal

pub returns : goal.returns
returns g c = rw (row-of c.args.self.now.table c.requires.2, c.row.view_is) c.requires.2
