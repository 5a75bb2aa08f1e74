use Rattle.determinize_find.proofs.Common.{ap, arith, IfOk-weaker, ltb-false, None, rules, Some, sym, ◌∙◌, ◌≡◌}
use Rattle.determinize_find.proofs.leftmost.SearchInTurn.{found_here, found_last, IsLatest, latest_is, more_nothing}
use Rattle.determinize_find.proofs.plain.PlainFinder.find.Given.{Over}
use Rattle.determinize_find.proofs.plain.PlainFinder.find.Goals.{After-latest_start-latest}
use Rattle.determinize_find.proofs.plain.PlainFinder.find.Goals as goal

-- no match begins behind this index
latest : (g : Over) (c : After-latest_start-latest g)
    → IsLatest c.args.self.now.nfa c.args.input.now c.latest_start-latest.result
latest g c = latest_is _ c.args.input.now c.latest_start-latest.result c.self.inside.nfa.now
    (omega (arith, ltb-false _ _ (sym c.is_done.ensures ∙ c.if-is_done.false)))
    (rw (← c.self.view_is) c.self.invariant.same) c.latest_start-latest.ensures

pub returns-in-Some-clause-leftmost : goal.returns-in-Some-clause-leftmost
returns-in-Some-clause-leftmost g c =
    let is : c.in_ok-found.field-0 ≡ Some c.in-Some.found = search rules in
    found_here _ _ c.args.input.now c.loop-at.at c.latest_start-latest.result c.in-Some.found
    (ap (λ v. v.nfa) c.loop-at.invariant.same)
    (latest g (goal.at.returns-in-Some-clause-leftmost g c).After-latest_start-latest)
    (omega (arith, c.start-at.ensures.value)) (omega arith) c.loop-at.invariant.nothing
    (rw is at c.in_ok-found.ensures.best)

pub loop-at-preserved : goal.loop-at-preserved
loop-at-preserved g c =
    let is : c.in_ok-found.field-0 ≡ None = search rules in record {
      same = search rules;
      nothing = more_nothing _ _ c.args.input.now c.loop-at.at (ap (λ v. v.nfa) c.loop-at.invariant.same)
          (omega (arith, c.start-at.ensures.value)) c.loop-at.invariant.nothing
          (rw is at c.in_ok-found.ensures.best);
    }

pub returns-clause-leftmost : goal.returns-clause-leftmost
returns-clause-leftmost g c =
    let last = latest g (goal.at.returns-clause-leftmost g c).After-latest_start-latest in
    IfOk-weaker c.find_at-2.result _ _
    (λ found best. found_last _ _ c.args.input.now c.loop-at.at c.latest_start-latest.result found
    (ap (λ v. v.nfa) c.loop-at.invariant.same) last (omega arith) c.loop-at.invariant.nothing best)
    c.find_at-2.ensures.best
