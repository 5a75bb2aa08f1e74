use Rattle.determinize_dense.proofs.Common.{columns_of, HasIds, length, Stays, ◌*◌, ◌-◌, ◌<◌, ◌≡◌, ◌≤◌}
use Rattle.determinize_dense.proofs.build.Builder.fill.Given as goal

abbrev pub invariant-loop-row : goal.invariant-loop-row
invariant-loop-row g l = record {
  stays : Stays l.fn.self l.self;
  usual : HasIds l.self l.usual.row l.usual.further.now;
  listed : l.usual.row < length l.self.values;
  whole : length l.self.next ≡ l.row * columns_of l.self.classes;
  within : l.row ≤ length l.self.values;
}

abbrev pub decreases-loop-row : goal.decreases-loop-row
decreases-loop-row g l = l.self.limit - l.row
