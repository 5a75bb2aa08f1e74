use Rattle.determinize_syntax.proofs.Common.{refl}
use Rattle.determinize_syntax.specs.Spells.{plus, query, star}
use Rattle.determinize_syntax.proofs.repetition.bounds_of.Goals as goal

pub returns-in-42-clause-some : goal.returns-in-42-clause-some
returns-in-42-clause-some c = rw c.in-42.is (star, refl)

pub returns-in-43-clause-some : goal.returns-in-43-clause-some
returns-in-43-clause-some c = rw c.in-43.is (plus, refl)

pub returns-in-63-clause-some : goal.returns-in-63-clause-some
returns-in-63-clause-some c = rw c.in-63.is (query, refl)
