use Rattle.std.proofs.Common.{◌+◌, ◌-◌, ◌<◌, ◌≤◌, IsTrue, length}
use Rattle.determinize_linear.specs.Private.Walks.{IsWalked}
use Rattle.determinize_linear.proofs.dense.walk_bytes.Given as goal

abbrev pub invariant-loop-walk : goal.invariant-loop-walk
invariant-loop-walk g l = record {
  walked : IsWalked l.text l.fn.walk l.fn.marks l.marks l.walk 1
      (g.C.Counter.total l.fn.counter) (g.C.Counter.total l.counter);
  high : l.walk.at ≤ length l.text.bytes;
  more : l.fn.walk.at < l.walk.at;
  counted : IsTrue g.C.Counter.counts
      → g.C.Counter.total l.fn.counter + l.walk.at ≤ g.C.Counter.total l.counter + l.fn.walk.at;
}

abbrev pub decreases-loop-walk : goal.decreases-loop-walk
decreases-loop-walk g l = length l.text.bytes + 1 - l.walk.at
