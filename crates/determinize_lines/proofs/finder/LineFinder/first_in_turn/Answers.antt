use Rattle.determinize_core.proofs.Common.{arith, by_cases, inr, sym, true≢false, ◌+◌, ◌-◌, ◌∙◌, ◌≡◌}
use Rattle.determinize_lines.proofs.FirstLines.{none_left, passed_line}
use Rattle.determinize_lines.proofs.finder.LineFinder.first_in_turn.Goals as goal

pub loop-start-preserved : goal.loop-start-preserved
loop-start-preserved c =
    let inv = c.loop-start.invariant in
    let end = c.end_of_line-end.result in
    let stop = rw inv.same at c.end_of_line-end.ensures in
    let found = rw inv.same at c.in_ok-has_match.ensures.found in
    let back : end + 1 - 1 ≡ end = omega arith in record {
      same = c.in_ok-has_match.ensures.same ∙ inv.same;
      begun = λ l. by_cases stop.stops (λ last. absurd (omega (arith, l, last))) (λ t. inr (rw back t));
      before = passed_line c.args.self.now c.args.lines.now c.loop-start.start end c.loop-start-test.true
          (inv.begun c.loop-start-test.true) stop inv.before
          (λ has. true≢false (sym (found.1 has) ∙ c.if-branch.false));
    }

pub returns-clause-first : goal.returns-clause-first
returns-clause-first c =
    let inv = c.loop-start.invariant in
    none_left c.args.self.now c.args.lines.now c.loop-start.start c.loop-start-test.false inv.before
