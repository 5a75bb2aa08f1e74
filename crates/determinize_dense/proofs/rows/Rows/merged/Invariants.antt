use Rattle.determinize_dense.proofs.Common.{get_or, length, map, patterns_at, slice_index, [], ℕ, ◌<◌, ◌≡◌, ◌≤◌}
use Rattle.determinize_dense.proofs.rows.Rows.merged.Given as goal

abbrev pub invariant-loop-number : goal.invariant-loop-number
invariant-loop-number g l = record {
  count : length l.starts ≡ 12;
  below : l.number ≤ 12;
  merged : (i : ℕ) → i < l.number
      → slice_index l.starts i ≡ slice_index l.fn.parts.numbers (slice_index l.fn.self.table.starts i);
}

abbrev pub invariant-loop-row : goal.invariant-loop-row
invariant-loop-row g l = record {
  items : l.row-items ≡ l.fn.parts.members;
  below : l.row-index ≤ length l.fn.parts.members;
  count : length l.patterns.items ≡ l.row-index;
  rows : (b : ℕ) → b < length (map (λ list. list.items) l.patterns.items)
      → get_or (map (λ list. list.items) l.patterns.items) b []
      ≡ patterns_at l.fn.self.table (slice_index l.fn.parts.members b);
}
