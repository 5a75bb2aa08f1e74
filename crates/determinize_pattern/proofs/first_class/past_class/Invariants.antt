use Rattle.std.proofs.Common.{take}
use Rattle.determinize_pattern.specs.Classes.{pairs}
use Rattle.determinize_pattern.specs.Private.FirstClasses.{IsBetween}
use Rattle.determinize_pattern.proofs.first_class.past_class.Given as goal

abbrev pub invariant-loop-range : goal.invariant-loop-range
invariant-loop-range l = IsBetween l.low l.past (pairs (take l.range-index l.range-items))
