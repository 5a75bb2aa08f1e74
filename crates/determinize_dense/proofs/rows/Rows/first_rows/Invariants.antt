use Rattle.determinize_dense.proofs.Common.{AreFirsts, bytes_eq, get_by, IsFirstAlike, length, slice_index, ℕ, ◌<◌, ◌≡◌}
use Rattle.determinize_dense.proofs.Common.{◌≤◌}
use Rattle.determinize_dense.proofs.rows.Rows.first_rows.Given as goal

abbrev pub invariant-loop-row : goal.invariant-loop-row
invariant-loop-row g l = record {
  count : length l.values.items ≡ l.row;
  below : l.row ≤ length l.fn.self.table.patterns;
  known : AreFirsts l.fn.self.table l.row (λ list. get_by (λ key. bytes_eq list key.now) l.firsts);
  firsts : (r : ℕ) → r < length l.values.items → IsFirstAlike l.fn.self.table r (slice_index l.values.items r);
}
