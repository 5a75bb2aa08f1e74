use Rattle.std.specs.Prelude.{◌⊎◌, slice_get}
use Rattle.std.proofs.Common.{length, Some, ◌-◌, ◌<◌, ◌≡◌}
use Rattle.determinize_lines.proofs.finder.LineFinder.first_in_turn.Given as goal
use Rattle.determinize_lines.specs.Finders.{NoneBefore}

abbrev pub decreases-loop-start : goal.decreases-loop-start
decreases-loop-start l = length l.lines - l.start

abbrev pub invariant-loop-start : goal.invariant-loop-start
invariant-loop-start l = record {
  same : l.self ≡ l.fn.self;
  begun : l.start < length l.lines → (l.start ≡ 0) ⊎ (slice_get l.lines (l.start - 1) ≡ Some l.fn.self.terminator);
  before : NoneBefore l.fn.self l.lines l.start;
}
