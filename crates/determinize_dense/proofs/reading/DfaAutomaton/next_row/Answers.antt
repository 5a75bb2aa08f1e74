use Rattle.determinize_dense.proofs.Common.{arith, IsRowAt, refl, row_over, sym, ◌*◌, ◌+◌, ◌∙◌, ◌≡◌}
use Rattle.determinize_dense.proofs.Offsets.{same-offset}
use Rattle.determinize_dense.proofs.reading.DfaAutomaton.next_row.Goals.{After-row_over}
use Rattle.determinize_dense.proofs.reading.DfaAutomaton.next_row.Goals as goal

-- the offset is that of the row
at-row : (g : _) (c : After-row_over g) → IsRowAt c.args.self.now.table
    (c.as_usize-number.result * c.alphabet_len-columns.result) c.args.row
at-row g c =
    let columns : c.alphabet_len-columns.result ≡ c.args.self.now.table.class_count + 1 =
    rw (← c.self.view_is) c.alphabet_len-columns.ensures.count in (
      omega (arith, c.if-number-len.false, c.as_usize-number.ensures, c.len.ensures.value),
      rw (c.as_usize-number.ensures, columns) refl,
    )

pub row_number-requires : goal.row_number-requires
row_number-requires g c =
    let at = at-row g (goal.at.row_number-requires g c).After-row_over in
    let next = c.row_over.ensures.value c.args.row at.0 at.1 in
    (row_over c.args.self.now.table c.args.row c.args.unit, next.0, next.1)

pub returns : goal.returns
returns g c =
    let at = at-row g (goal.at.returns g c).After-row_over in
    same-offset c.args.self.now.table
    (sym c.row_number.ensures.row.1 ∙ (c.row_over.ensures.value c.args.row at.0 at.1).1)
