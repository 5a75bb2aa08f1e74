use Rattle.std.proofs.Common.{◌-◌, ◌≤◌, map}
use Rattle.determinize_pattern.proofs.characters.Written.{Before}
use Rattle.determinize_pattern.specs.Patterns.{meaning}
use Rattle.determinize_pattern.specs.Private.Characters.{Adds, IsNumberOf}
use Rattle.determinize_pattern.proofs.utf8.+push_numbers.Given as goal

abbrev pub decreases-push_numbers : goal.decreases-push_numbers
decreases-push_numbers l = l.count

abbrev pub invariant-loop-digit : goal.invariant-loop-digit
invariant-loop-digit l =
    Adds (IsNumberOf l.lead l.count (Before l.count l.runs l.digit)) (map meaning l.fn.branches.items)
    (map meaning l.branches.items)
    × (l.digit ≤ l.digits)

abbrev pub decreases-loop-digit : goal.decreases-loop-digit
decreases-loop-digit l = l.digits - l.digit
