use Rattle.std.proofs.Common.{◌≤◌}
use Rattle.determinize_pattern.specs.Private.Dropping.{weight}
use Rattle.determinize_pattern.proofs.pattern.Pattern.into_parts.Given as goal

abbrev pub invariant-loop-self : goal.invariant-loop-self
invariant-loop-self l = ((weight l.self).size ≤ (weight l.initial.self).size)
    × ((weight l.self).around ≤ (weight l.initial.self).around)
