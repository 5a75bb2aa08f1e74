use Rattle.determinize_dense.proofs.Common.{◌++◌, ◌≡◌}
use Rattle.determinize_dense.proofs.build.Builder.list_ids.Given as goal

abbrev pub invariant-loop-id : goal.invariant-loop-id
invariant-loop-id g l = l.ids.items ++ l.id-iterator ≡ l.initial.ids.items ++ l.initial.id-iterator
