use Rattle.determinize_table.proofs.Common.{dead, slice_get-get_or}
use Rattle.determinize_table.proofs.TableRows.{entry-read, leads-none, leads-row}
use Rattle.determinize_table.proofs.table.TransitionTable.lookup.Goals as goal

pub from_row-requires : goal.from_row-requires
from_row-requires g c = rw c.deref.ensures.value (leads-row _ _ _
    (entry-read c.self.invariant.stored c.args.id c.args.unit c.column.ensures.is_unit c.column.ensures.value
    c.row.ensures _ (slice_get-get_or c.self.inside.states c.args.id dead (rw (← c.self.view_is) at c.requires)))
    (rw c.deref.ensures.value at c.if-entry-eq-UNKNOWN.false)).0

pub returns-then-entry-eq-UNKNOWN : goal.returns-then-entry-eq-UNKNOWN
returns-then-entry-eq-UNKNOWN g c = rw (← c.self.view_is) (λ v at. leads-none _ _ _
    (entry-read c.self.invariant.stored c.args.id c.args.unit c.column.ensures.is_unit c.column.ensures.value
    c.row.ensures v at)
    (rw c.deref.ensures.value at c.if-entry-eq-UNKNOWN.true))

pub returns-else-entry-eq-UNKNOWN : goal.returns-else-entry-eq-UNKNOWN
returns-else-entry-eq-UNKNOWN g c = rw (← c.self.view_is, c.from_row.ensures, c.deref.ensures.value) (λ v at.
    let (row, inside, is) = leads-row _ _ _
    (entry-read c.self.invariant.stored c.args.id c.args.unit c.column.ensures.is_unit c.column.ensures.value
    c.row.ensures v at)
    (rw c.deref.ensures.value at c.if-entry-eq-UNKNOWN.false) in
    (is, inside))
