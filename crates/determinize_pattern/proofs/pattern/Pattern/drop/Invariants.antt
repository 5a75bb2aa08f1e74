use Rattle.determinize_pattern.specs.Private.Dropping.{steps_left}
use Rattle.determinize_pattern.proofs.pattern.Pattern.drop.Given as goal

abbrev pub decreases-loop-part : goal.decreases-loop-part
decreases-loop-part l = steps_left l.parts.items l.around
