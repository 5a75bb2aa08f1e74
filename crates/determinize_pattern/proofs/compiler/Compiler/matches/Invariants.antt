use Rattle.std.proofs.Common.{◌≡◌, vec_len}
use Rattle.determinize_pattern.specs.Private.Compiling.{AddsMatches}
use Rattle.determinize_pattern.specs.Private.Compiling.{Paid}
use Rattle.determinize_pattern.proofs.compiler.Compiler.matches.Given as goal

abbrev pub invariant-loop-n : goal.invariant-loop-n
invariant-loop-n g l = AddsMatches l.initial.self.builder l.self.builder l.ids.items × (vec_len l.ids ≡ l.n)
    × Paid l.fn.self.builder l.fn.self.left l.self.builder l.self.left
