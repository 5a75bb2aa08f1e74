use Rattle.determinize_dense.proofs.Common.{get, IsSplitting, length, same_pair, slice_index, take, ℕ, ◌≡◌, ◌≤◌}
use Rattle.determinize_dense.proofs.partition.Partition.split.Given as goal

abbrev pub invariant-loop-row : goal.invariant-loop-row
invariant-loop-row g l = record {
  count : length l.blocks.items ≡ length l.fn.self.numbers;
  below : l.row ≤ length l.blocks.items;
  rest : (r : ℕ) → l.row ≤ r → slice_index l.blocks.items r ≡ slice_index l.fn.self.numbers r;
  splitting : IsSplitting l.fn.self l.values (take l.row l.blocks.items) l.members.items (get same_pair l.numbers);
}
