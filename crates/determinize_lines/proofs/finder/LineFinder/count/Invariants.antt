use Rattle.std.proofs.Common.{◌≡◌}
use Rattle.determinize_lines.proofs.finder.LineFinder.count.Given as goal

abbrev pub invariant-loop-much : goal.invariant-loop-much
invariant-loop-much l = l.self ≡ l.fn.self
