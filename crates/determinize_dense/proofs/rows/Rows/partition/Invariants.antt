use Rattle.determinize_dense.proofs.Common.{IsPartition, IsSettled, length, ℕ, ◌-◌, ◌<◌, ◌≡◌, ◌≤◌}
use Rattle.determinize_dense.proofs.rows.Rows.partition.Given as goal

abbrev pub invariant-loop-column : goal.invariant-loop-column
invariant-loop-column g l = record {
  partition : IsPartition l.fn.self.table l.parts;
}

abbrev pub decreases-loop-column : goal.decreases-loop-column
decreases-loop-column g l = length l.fn.self.table.patterns - length l.parts.members

abbrev pub invariant-loop-column-2 : goal.invariant-loop-column-2
invariant-loop-column-2 g l = record {
  partition : IsPartition l.fn.self.table l.parts;
  more : l.count ≤ length l.parts.members;
  settled : length l.parts.members ≡ l.count → (c : ℕ) → c < l.column → IsSettled l.fn.self.table l.parts c;
}
