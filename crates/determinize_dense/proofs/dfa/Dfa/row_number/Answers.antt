use Rattle.determinize_dense.proofs.Common.{arith, IsInverse, ◌*◌, ◌/◌, ◌≡◌}
use Rattle.determinize_dense.proofs.dfa.Dfa.row_number.Goals.{After-self}
use Rattle.determinize_dense.proofs.dfa.Dfa.row_number.Goals as goal

inverse : (g : _) (c : After-self g) → IsInverse c.args.self.now.table c.self.inside.inverse
inverse g c = rw (← c.self.view_is) c.self.invariant.inverted

pub overflow_mul-result : goal.overflow_mul-result
overflow_mul-result g c = rw c.requires.2 (omega (arith, (inverse g c).room c.requires.0 c.requires.1))

pub returns-clause-row : goal.returns-clause-row
returns-clause-row g c =
    let at = inverse g (goal.at.returns-clause-row g c).After-self in
    let row : c.args.offset * c.self.inside.inverse / 4294967296 ≡ c.requires.0 =
    rw c.requires.2 (at.row c.requires.0 c.requires.1) in
    rw row (c.requires.1, c.requires.2)

pub returns-clause-dead : goal.returns-clause-dead
returns-clause-dead g c = rw (← c.self.view_is) c.self.invariant.ordered.dead
