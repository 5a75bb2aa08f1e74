use Rattle.determinize_syntax.proofs.Common.{◌≡◌, false, list_any}
use Rattle.std.proofs.Common.{take}
use Rattle.determinize_syntax.proofs.Classes.{has_either}
use Rattle.determinize_syntax.proofs.class.has_case.Given as goal

abbrev pub invariant-loop-range : goal.invariant-loop-range
invariant-loop-range l = list_any (has_either l.lower l.upper) (take l.range-index l.ranges) ≡ false
