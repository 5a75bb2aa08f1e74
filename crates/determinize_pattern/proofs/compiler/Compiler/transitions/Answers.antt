use Rattle.std.proofs.Common.{arith}
use Rattle.std.proofs.lemmas.List.{take_all}
use Rattle.determinize_pattern.proofs.compiler.Compiler.transitions.Goals as goal

pub returns : goal.returns
returns g c = rw (take_all c.loop-i.i c.args.ranges.now (omega arith)) at c.loop-i.invariant
