use Rattle.determinize_dense.proofs.Common.{length, slice_index, ℕ, ◌-◌, ◌<◌, ◌≤◌}
use Rattle.determinize_dense.proofs.partition.Partition.last_upto.Given as goal

abbrev pub invariant-loop-last : goal.invariant-loop-last
invariant-loop-last g l = record {
  there : l.last < length l.self.members;
  upto : (b : ℕ) → b ≤ l.last → slice_index l.ranks (slice_index l.self.members b) ≤ l.rank;
}

abbrev pub decreases-loop-last : goal.decreases-loop-last
decreases-loop-last g l = length l.self.members - l.last
