use Rattle.determinize_dense.proofs.Common.{AreDistancesSoFar, IsDistanceSoFar, length, slice_index, sum_by, ℕ, ◌<◌}
use Rattle.determinize_dense.proofs.Common.{◌≡◌, ◌≤◌}
use Rattle.determinize_dense.proofs.rows.Rows.distances.Given as goal

abbrev pub invariant-loop-row : goal.invariant-loop-row
invariant-loop-row g l = record {
  count : length l.distances.items ≡ l.row;
  below : l.row ≤ length l.fn.self.table.patterns;
  each : (r : ℕ) → r < length l.distances.items → IsDistanceSoFar l.fn.self.table r (slice_index l.distances.items r);
}

abbrev pub invariant-loop : goal.invariant-loop
invariant-loop g l = record {
  so_far : AreDistancesSoFar l.fn.self.table l.distances.items;
}

abbrev pub decreases-loop : goal.decreases-loop
decreases-loop g l = sum_by (λ n. n) l.distances.items
