use Rattle.std.proofs.Common.{map, take}
use Rattle.determinize_pattern.proofs.compiled.Starting.{BeginsEach}
use Rattle.determinize_pattern.specs.Patterns.{meaning}
use Rattle.determinize_pattern.specs.Private.Compiling.{Paid}
use Rattle.determinize_pattern.proofs.compiler.Compiler.start.Given as goal

abbrev pub invariant-loop-i : goal.invariant-loop-i
invariant-loop-i g l = BeginsEach l.initial.self.builder l.self.builder l.matches (map meaning (take l.i l.patterns))
    l.words.items
    × Paid l.fn.self.builder l.fn.self.left l.self.builder l.self.left
