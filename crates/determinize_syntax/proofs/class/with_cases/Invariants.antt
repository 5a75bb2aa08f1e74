use Rattle.determinize_syntax.proofs.Common.{HasBelow, either_case, has}
use Rattle.determinize_syntax.proofs.class.with_cases.Given as goal

abbrev pub invariant-loop-i : goal.invariant-loop-i
invariant-loop-i l = HasBelow (either_case (has l.ranges)) l.i l.cases.items
