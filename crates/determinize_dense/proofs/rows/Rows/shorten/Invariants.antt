use Rattle.determinize_dense.proofs.Common.{AreDistancesSoFar, false, IsShort, length, sum_by, true, ℕ, ◌<◌, ◌≡◌, ◌≤◌}
use Rattle.determinize_dense.proofs.rows.Rows.shorten.Given as goal

abbrev pub invariant-loop-row : goal.invariant-loop-row
invariant-loop-row g l = record {
  below : l.row ≤ length l.fn.self.table.patterns;
  so_far : AreDistancesSoFar l.fn.self.table l.distances;
  short : l.is_shorter ≡ false → (r : ℕ) → l.row ≤ r → r < length l.fn.self.table.patterns
      → IsShort l.fn.self.table l.distances r;
  fewer : sum_by (λ n. n) l.distances ≤ sum_by (λ n. n) l.initial.distances;
  less : l.is_shorter ≡ true → sum_by (λ n. n) l.distances < sum_by (λ n. n) l.initial.distances;
}

abbrev pub decreases-loop-row : goal.decreases-loop-row
decreases-loop-row g l = l.row
