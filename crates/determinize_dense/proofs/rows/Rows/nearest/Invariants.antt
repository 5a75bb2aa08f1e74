use Rattle.determinize_dense.proofs.Common.{entry, slice_index, ℕ, ◌+◌, ◌<◌, ◌≡◌, ◌≤◌}
use Rattle.determinize_dense.proofs.rows.Rows.nearest.Given as goal

abbrev pub invariant-loop-column : goal.invariant-loop-column
invariant-loop-column g l = record {
  least : (c : ℕ) → c < l.column → l.least ≤ slice_index l.fn.distances (entry l.fn.self.table l.fn.row c);
  there : (c : ℕ) × (c < l.fn.self.table.class_count + 1)
      × (l.least ≡ slice_index l.fn.distances (entry l.fn.self.table l.fn.row c));
}
