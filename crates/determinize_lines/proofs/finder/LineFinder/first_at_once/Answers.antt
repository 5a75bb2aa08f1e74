use Rattle.determinize_core.proofs.Common.{ap, arith, length, ◌<◌}
use Rattle.determinize_lines.proofs.FirstLines.{none_first, some_first}
use Rattle.determinize_lines.proofs.finder.LineFinder.first_at_once.Goals as goal
use Rattle.determinize_lines.specs.Finders.{FinderValue}

pub returns-in-Some-clause-first : goal.returns-in-Some-clause-first
returns-in-Some-clause-first c =
    let terminator = ap (λ (v : FinderValue). v.terminator) c.first_end.view_is in
    let some : 0 < length c.args.lines.now = grind (arith, c.is_empty.ensures, c.if-is_empty.false) in
    some_first c.args.self.now c.requires.terminator c.requires.stay c.args.lines.now c.text_of.result.now
    (rw terminator at c.text_of.ensures) c.first_line_law.ensures.some c.in-Some.found
    (rw c.in-Some.is at c.in_ok-found.ensures.end) some (rw c.in-Some.is at c.in_ok-found.ensures.within)
    c.line_at.result (rw c.in_ok-found.ensures.same at c.line_at.ensures)

pub returns-in-None-clause-first : goal.returns-in-None-clause-first
returns-in-None-clause-first c =
    let terminator = ap (λ (v : FinderValue). v.terminator) c.first_end.view_is in
    none_first c.args.self.now c.requires.terminator c.requires.stay c.args.lines.now c.text_of.result.now
    (rw terminator at c.text_of.ensures) c.first_line_law.ensures.none
    (rw c.in-None.is at c.in_ok-found.ensures.end)
