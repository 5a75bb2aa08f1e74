use Rattle.determinize_syntax.proofs.Common.{HasBelow, set_of}
use Rattle.determinize_syntax.proofs.kind.ClassKind.members.Given as goal

abbrev pub invariant-loop-i : goal.invariant-loop-i
invariant-loop-i l = HasBelow (set_of l.self) l.i l.members.items
