use Rattle.determinize_dense.proofs.Common.{entry, length, slice_index, ℕ, ◌<◌, ◌≡◌, ◌≤◌}
use Rattle.determinize_dense.proofs.rows.Rows.split_by.Given as goal

abbrev pub invariant-loop-row : goal.invariant-loop-row
invariant-loop-row g l = record {
  count : length l.targets.items ≡ l.row;
  below : l.row ≤ length l.fn.self.table.patterns;
  blocks : (r : ℕ) → r < length l.targets.items
      → slice_index l.targets.items r ≡ slice_index l.fn.parts.numbers (entry l.fn.self.table r l.fn.column);
}
