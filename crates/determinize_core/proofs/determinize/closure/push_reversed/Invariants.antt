use Rattle.determinize_core.proofs.Common.{◌++◌, ◌≡◌}
use Rattle.determinize_core.proofs.determinize.closure.push_reversed.Given as goal

abbrev pub invariant-loop-id : goal.invariant-loop-id
invariant-loop-id g l = l.stack.items ≡ l.initial.stack.items ++ l.yielded
