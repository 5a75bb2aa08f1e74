use Rattle.determinize_dense.proofs.Common.{IsRank, length, slice_index, ℕ, ◌<◌, ◌≡◌, ◌≤◌}
use Rattle.determinize_dense.proofs.rows.Rows.ranks.Given as goal

abbrev pub invariant-loop-byte : goal.invariant-loop-byte
invariant-loop-byte g l = (k : ℕ) → k < 256 → slice_index l.class_sizes k ≤ l.byte

abbrev pub invariant-loop-row : goal.invariant-loop-row
invariant-loop-row g l = record {
  count : length l.ranks.items ≡ l.row;
  below : l.row ≤ length l.fn.self.table.patterns;
  each : (r : ℕ) → r < length l.ranks.items → IsRank l.fn.self.table r (slice_index l.ranks.items r);
}
