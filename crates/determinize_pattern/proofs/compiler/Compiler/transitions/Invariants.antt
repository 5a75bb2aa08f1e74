use Rattle.std.proofs.Common.{◌≡◌, take}
use Rattle.determinize_pattern.specs.Classes.{pairs}
use Rattle.determinize_pattern.specs.Private.Entries.{leading}
use Rattle.determinize_pattern.proofs.compiler.Compiler.transitions.Given as goal

abbrev pub invariant-loop-i : goal.invariant-loop-i
invariant-loop-i g l = l.transitions.items ≡ leading l.next (pairs (take l.i l.ranges))
