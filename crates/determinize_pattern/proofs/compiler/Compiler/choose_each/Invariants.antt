use Rattle.std.proofs.Common.{slice_index}
use Rattle.determinize_below.specs.Semantics.{Union}
use Rattle.determinize_pattern.specs.Private.Entries.{in_order}
use Rattle.determinize_pattern.proofs.compiled.Growing.{AddsBelow}
use Rattle.determinize_pattern.specs.Private.Compiling.{Paid}
use Rattle.determinize_pattern.proofs.compiler.Compiler.choose_each.Given as goal

abbrev pub invariant-loop-k : goal.invariant-loop-k
invariant-loop-k g l = AddsBelow l.first l.initial.self.builder l.self.builder l.initial.ids l.ids l.k
    (λ k. Union (in_order l.first_wins (slice_index l.initial.ids k) (slice_index l.others k)))
    × Paid l.fn.self.builder l.fn.self.left l.self.builder l.self.left
