use Rattle.determinize_core.proofs.Common.{arith}
use Rattle.determinize_lines.proofs.Stops.{stop_at, stop_at_end}
use Rattle.determinize_lines.proofs.finder.LineFinder.end_of_line.Goals as goal

pub returns-in-Some : goal.returns-in-Some
returns-in-Some c =
    let is = c.self.invariant in
    rw (← c.self.view_is) (stop_at c.self.inside.ends c.self.inside.terminator is.only is.byte c.args.lines.now
    (λ k l. omega (arith, c.type_inv.lines k)) c.args.index c.in-Some.end c.in-Some.ensures)

pub returns-in-None : goal.returns-in-None
returns-in-None c =
    let is = c.self.invariant in
    rw (← c.self.view_is) (stop_at_end c.self.inside.ends c.self.inside.terminator is.only is.byte c.args.lines.now
    (λ k l. omega (arith, c.type_inv.lines k)) c.args.index c.requires c.in-None.ensures)
