use Rattle.determinize_below.proofs.Common.{◌-◌, arith}
use Rattle.std.proofs.lemmas.Nat.{and_le_l}
use Rattle.determinize_below.proofs.looks.LookSets.{has-and_not}
use Rattle.determinize_below.specs.Look.{subtract}
use Rattle.determinize_below.proofs.look.LookSet.subtract.Goals as goal

pub invariant_of-result : goal.invariant_of-result
invariant_of-result c =
    omega (arith, and_le_l c.self.inside.bits (4294967295 - c.other.inside.bits), c.self.invariant)

pub returns-clause-value : goal.returns-clause-value
unfolding subtract
returns-clause-value c = rw (← c.self.view_is, ← c.other.view_is)

pub returns-clause-members : goal.returns-clause-members
returns-clause-members c = λ look. rw (← c.self.view_is, ← c.other.view_is)
    (has-and_not c.self.inside.bits c.other.inside.bits look (omega (arith, c.other.invariant)))
