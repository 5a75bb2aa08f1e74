use Rattle.determinize_core.proofs.Common.{arith}
use Rattle.determinize_lines.proofs.Stops.{begun_after, begun_at_start}
use Rattle.determinize_lines.proofs.finder.LineFinder.line_at.Goals as goal
use Rattle.determinize_lines.proofs.finder.LineFinder.line_at.Goals.{in-Some, in-None}

pub returns : goal.returns
returns c =
    let is = c.self.invariant in
    let self = c.self.inside in
    let behind = rw (← c.self.view_is) at c.end_of_line.ensures in
    rw (← c.self.view_is) (elim c.match-rfind.branch [
      | in-Some w ↦ rw w.start-is (begun_after self.ends self.terminator is.only is.byte c.args.lines.now
          (λ k l. omega (arith, c.type_inv.lines k)) c.args.index w.in-Some.end c.end_of_line.result c.requires
          w.in-Some.ensures behind)
      | in-None w ↦ rw w.start-is (begun_at_start self.ends self.terminator is.only is.byte
          c.args.lines.now (λ k l. omega (arith, c.type_inv.lines k)) c.args.index c.end_of_line.result
          w.in-None.ensures behind)
    ])
