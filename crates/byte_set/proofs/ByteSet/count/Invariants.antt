use Rattle.std.proofs.Common.{◌≡◌, ◌≤◌}
use Rattle.std.specs.List.{count_by, slice_range}
use Rattle.byte_set.specs.Sets.{is_member}
use Rattle.byte_set.proofs.ByteSet.count.Given as goal

abbrev pub invariant-loop-index : goal.invariant-loop-index
invariant-loop-index l = record {
  low : l.from ≤ l.index;
  count : l.count ≡ count_by (is_member l.self) (slice_range l.text l.from l.index);
}
