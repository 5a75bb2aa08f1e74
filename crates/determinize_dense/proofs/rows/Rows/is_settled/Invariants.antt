use Rattle.determinize_dense.proofs.Common.{AreTogether, entry, length, slice_index, ℕ, ◌<◌, ◌≤◌}
use Rattle.determinize_dense.proofs.rows.Rows.is_settled.Given as goal

abbrev pub invariant-loop-row : goal.invariant-loop-row
invariant-loop-row g l = record {
  below : l.row ≤ length l.fn.self.table.patterns;
  settled : (r : ℕ) → r < l.row → AreTogether l.fn.parts (entry l.fn.self.table r l.fn.column)
      (entry l.fn.self.table (slice_index l.fn.parts.members (slice_index l.fn.parts.numbers r)) l.fn.column);
}
