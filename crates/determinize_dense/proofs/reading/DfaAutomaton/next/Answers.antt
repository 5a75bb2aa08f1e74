use Rattle.determinize_dense.proofs.Common.{IsOffset, refl, row_over}
use Rattle.determinize_dense.proofs.Offsets.{row-of}
use Rattle.determinize_dense.proofs.reading.DfaAutomaton.next.Goals as goal

pub returns-clause-value : goal.returns-clause-value
returns-clause-value g c =
    let at : IsOffset c.args.self.now.table c.row.inside.0 = rw c.row.view_is c.requires in
    let next = c.row_over.ensures.value at.0 at.1 at.2 in
    rw (row-of c.args.self.now.table c.requires.2, row-of c.args.self.now.table next.1) refl

pub returns-clause-row : goal.returns-clause-row
returns-clause-row g c =
    let at : IsOffset c.args.self.now.table c.row.inside.0 = rw c.row.view_is c.requires in
    let next = c.row_over.ensures.value at.0 at.1 at.2 in
    (row_over c.args.self.now.table at.0 c.args.unit, next.0, next.1)
