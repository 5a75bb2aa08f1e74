use Rattle.std.proofs.Common.{◌≡◌, ◌-◌, ◌≤◌, ◌%◌}
use Rattle.std.specs.List.{count_by, slice_range}
use Rattle.byte_set.specs.Tables.{passes}
use Rattle.byte_set.proofs.count_by_vectors.Given as goal

abbrev pub invariant-loop-at : goal.invariant-loop-at
invariant-loop-at g l = record {
  low : l.from ≤ l.at;
  high : l.at ≤ l.to;
  whole : (l.to - l.at) % 16 ≡ 0;
  count : l.count ≡ count_by (passes (g.S.LookUp.bits l.s)) (slice_range l.text l.from l.at);
}

abbrev pub decreases-loop-at : goal.decreases-loop-at
decreases-loop-at g l = l.to - l.at

abbrev pub invariant-loop-at-2 : goal.invariant-loop-at-2
invariant-loop-at-2 g l = record {
  low : l.from ≤ l.at;
  high : l.at ≤ l.to;
  whole : (l.to - l.at) % 16 ≡ 0;
  count : l.count ≡ count_by (passes (g.S.LookUp.bits l.s)) (slice_range l.text l.from l.at);
}

abbrev pub decreases-loop-at-2 : goal.decreases-loop-at-2
decreases-loop-at-2 g l = l.to - l.at
