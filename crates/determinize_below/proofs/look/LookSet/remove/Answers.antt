use Rattle.determinize_below.proofs.Common.{◌-◌, arith}
use Rattle.std.proofs.lemmas.Nat.{and_le_l}
use Rattle.determinize_below.specs.Look.{remove, subtract}
use Rattle.determinize_below.proofs.look.LookSet.remove.Goals as goal

pub invariant_of-result : goal.invariant_of-result
invariant_of-result c =
    omega (arith, and_le_l c.self.inside.bits (4294967295 - c.as_repr.result), c.self.invariant)

pub returns : goal.returns
unfolding remove subtract
returns c = rw (← c.self.view_is, ← c.as_repr.ensures)
