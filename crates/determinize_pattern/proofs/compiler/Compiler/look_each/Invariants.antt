use Rattle.std.proofs.Common.{slice_index}
use Rattle.determinize_below.specs.Semantics.{Look}
use Rattle.determinize_pattern.proofs.compiled.Growing.{AddsBelow}
use Rattle.determinize_pattern.specs.Private.Compiling.{Paid}
use Rattle.determinize_pattern.proofs.compiler.Compiler.look_each.Given as goal

abbrev pub invariant-loop-k : goal.invariant-loop-k
invariant-loop-k g l = AddsBelow l.first l.initial.self.builder l.self.builder l.initial.ids l.ids l.k
    (λ k. Look l.look (slice_index l.initial.ids k))
    × Paid l.fn.self.builder l.fn.self.left l.self.builder l.self.left
