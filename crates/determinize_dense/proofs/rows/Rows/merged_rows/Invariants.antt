use Rattle.determinize_dense.proofs.Common.{AreMergedEntries, length, ◌*◌, ◌+◌, ◌≡◌, ◌≤◌}
use Rattle.determinize_dense.proofs.rows.Rows.merged_rows.Given as goal

abbrev pub invariant-loop-row : goal.invariant-loop-row
invariant-loop-row g l = record {
  items : l.row-items ≡ l.fn.parts.members;
  below : l.row-index ≤ length l.fn.parts.members;
  size : length l.next.items ≡ l.row-index * (l.fn.self.table.class_count + 1);
  entries : AreMergedEntries l.fn.self.table l.fn.parts l.next.items;
}

abbrev pub invariant-loop-column : goal.invariant-loop-column
invariant-loop-column g l = record {
  below : l.column ≤ l.fn.self.table.class_count + 1;
  size : length l.next.items ≡ l.row-index * (l.fn.self.table.class_count + 1) + l.column;
  entries : AreMergedEntries l.fn.self.table l.fn.parts l.next.items;
}
