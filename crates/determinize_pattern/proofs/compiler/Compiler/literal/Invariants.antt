use Rattle.std.proofs.Common.{drop, slice_index}
use Rattle.determinize_pattern.specs.Private.Compiling.{IsBegun, Paid}
use Rattle.determinize_pattern.specs.Patterns.{literal}
use Rattle.determinize_pattern.proofs.compiler.Compiler.literal.Given as goal

abbrev pub invariant-loop-i : goal.invariant-loop-i
invariant-loop-i g l =
    IsBegun l.initial.self.builder l.self.builder (literal (drop l.i l.bytes)) (slice_index l.fn.ids 0) l.entry
    × Paid l.fn.self.builder l.fn.self.left l.self.builder l.self.left
