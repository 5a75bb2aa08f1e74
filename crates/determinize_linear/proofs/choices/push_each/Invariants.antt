use Rattle.std.proofs.Common.{◌++◌, ◌≡◌, map}
use Rattle.ordered_reach.specs.Runs.{placed}
use Rattle.determinize_linear.proofs.choices.push_each.Given as goal

abbrev pub invariant-loop-id : goal.invariant-loop-id
invariant-loop-id g l = l.stack.items ≡ l.initial.stack.items ++ map (placed l.at) l.yielded
