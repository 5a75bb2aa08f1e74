use Rattle.std.proofs.Common.{◌≤◌}
use Rattle.byte_set.specs.Sets.{HasNone}
use Rattle.byte_set.specs.Tables.{passes}
use Rattle.byte_set.proofs.quiet_from.Given as goal

abbrev pub invariant-loop-end : goal.invariant-loop-end
invariant-loop-end g l = record {
  low : l.from ≤ l.end;
  high : l.end ≤ l.to;
  none : HasNone (passes (g.S.LookUp.bits l.s)) l.text l.end l.to;
}

abbrev pub decreases-loop-end : goal.decreases-loop-end
decreases-loop-end g l = l.end

abbrev pub invariant-loop-end-2 : goal.invariant-loop-end-2
invariant-loop-end-2 g l = record {
  low : l.from ≤ l.end;
  high : l.end ≤ l.to;
  none : HasNone (passes (g.S.LookUp.bits l.s)) l.text l.end l.to;
}

abbrev pub decreases-loop-end-2 : goal.decreases-loop-end-2
decreases-loop-end-2 g l = l.end
