use Rattle.determinize_find.proofs.Common.{from, None, rules, Some, Yes, ◌≡◌}
use Rattle.determinize_find.proofs.leftmost.SearchInTurn.{best_in}
use Rattle.determinize_find.proofs.plain.Plain.find_at.Goals as goal

pub returns-in_default-clause-best : goal.returns-in_default-clause-best
returns-in_default-clause-best g c =
    let from : c.anchored-from.result ≡ record (from c.args.input.now c.args.at) { anchored = Yes } = search rules in
    let none : c.in_ok-found.field-0 ≡ None = search rules in
    rw (← c.self.view_is) (best_in _ c.args.input.now c.args.at c.self.invariant.reads_forward c.requires.start
    c.requires.end None (rw (from, none, c.self.invariant.kind) at c.in_ok-found.ensures.search))

pub returns-clause-best : goal.returns-clause-best
returns-clause-best g c =
    let from : c.anchored-from.result ≡ record (from c.args.input.now c.args.at) { anchored = Yes } = search rules in
    rw (← c.self.view_is) (best_in _ c.args.input.now c.args.at c.self.invariant.reads_forward c.requires.start
    c.requires.end (Some c.in-Some.found)
    (rw (from, c.in-Some.is, c.self.invariant.kind) at c.in_ok-found.ensures.search))
