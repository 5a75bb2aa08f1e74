use Rattle.std.proofs.Common.{◌≤◌}
use Rattle.byte_set.specs.Sets.{HasNone, is_member}
use Rattle.byte_set.proofs.ByteSet.last_by_bytes.Given as goal

abbrev pub invariant-loop-end : goal.invariant-loop-end
invariant-loop-end l = record {
  low : l.from ≤ l.end;
  high : l.end ≤ l.to;
  none : HasNone (is_member l.self) l.text l.end l.to;
}

abbrev pub decreases-loop-end : goal.decreases-loop-end
decreases-loop-end l = l.end
