use Rattle.std.proofs.Common.{take, ◌≤◌}
use Rattle.determinize_pattern.specs.Nesting.{deepest}
use Rattle.determinize_pattern.proofs.nesting.+nesting.Given as goal

abbrev pub invariant-are_within-loop-i : goal.invariant-are_within-loop-i
invariant-are_within-loop-i l = deepest (take l.i l.patterns) ≤ l.limit
