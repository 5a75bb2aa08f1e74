use Rattle.determinize_dense.proofs.Common.{all_read, length, sym, units, [], ◌∙◌, ◌≡◌, ◌≤◌}
use Rattle.determinize_dense.proofs.Along.{lists_along-done}
use Rattle.determinize_dense.proofs.overlapping.OverlappingIterator.next.Goals as goal

pub returns-then-self-len-clause-steps : goal.returns-then-self-len-clause-steps
returns-then-self-len-clause-steps g c =
    let all : length (units c.self.inside.text) ≤ c.self.inside.read =
    all_read c.self.inside.text c.if-self-len.true c.len.ensures.value in
    let done : c.args.self.now ≡ [] =
    sym c.self.view_is ∙ lists_along-done (g.D.Automaton.stored c.self.inside.automaton.now).table c.self.inside.row
    c.self.inside.read (units c.self.inside.text) all in
    (done, done)
