use Rattle.determinize_dense.proofs.Common.{IsOrdering, length, ◌*◌, ◌+◌, ◌≤◌}
use Rattle.determinize_dense.proofs.partition.Partition.by_rank.Given as goal

abbrev pub invariant-loop-rank : goal.invariant-loop-rank
invariant-loop-rank g l = record {
  below : l.rank ≤ 4;
  ordering : IsOrdering l.ranks (l.rank * length l.ranks) l.blocks.items l.members.items;
}

abbrev pub invariant-loop-row : goal.invariant-loop-row
invariant-loop-row g l = record {
  below : l.row ≤ length l.ranks;
  ordering : IsOrdering l.ranks (l.rank * length l.ranks + l.row) l.blocks.items l.members.items;
}
