use Rattle.determinize_find.proofs.Common.{None, ◌∙◌}
use Rattle.determinize_find.proofs.matches.NextMatch.{after_all, after_one, IsOneMore}
use Rattle.determinize_find.proofs.iter.find_all.Given.{Over}
use Rattle.determinize_find.proofs.iter.find_all.Goals.{In-Ok-Some}
use Rattle.determinize_find.proofs.iter.find_all.Goals as goal

-- the cursor is behind one more match
after_next : (g : Over) (c : In-Ok-Some g) → IsOneMore (g.F.Finder.nfa c.args.finder.now) c.args.input.now None
    c.loop-found.searcher c.advance.new.self c.loop-found.all.items c.in-Ok-Some.found
after_next g c = after_one _ c.args.input.now c.loop-found.searcher c.advance.new.self
    c.loop-found.all.items c.in-Ok-Some.found c.input_law.ensures.within c.loop-found.invariant.after
    (rw (c.loop-found.invariant.same, c.in-Ok-Some.field-0-is) at c.in-Ok-Some.ensures.next)
    (rw c.in-Ok-Some.field-0-is at c.in-Ok-Some.ensures.after)

pub loop-found-smaller : goal.loop-found-smaller
loop-found-smaller g c = (after_next g (goal.at.loop-found-smaller g c).In-Ok-Some).1

pub loop-found-preserved : goal.loop-found-preserved
loop-found-preserved g c =
    let next = after_next g (goal.at.loop-found-preserved g c).In-Ok-Some in record {
      same = c.in-Ok-Some.ensures.same ∙ c.loop-found.invariant.same;
      after = rw c.in_ok-push-in-Ok-Some.ensures.items next.0;
    }

pub returns-in-Ok-None-clause-all : goal.returns-in-Ok-None-clause-all
returns-in-Ok-None-clause-all g c =
    after_all _ c.args.input.now c.loop-found.searcher c.loop-found.all.items c.loop-found.invariant.after
    (rw (c.loop-found.invariant.same, c.in-Ok-None.field-0-is) at c.in-Ok-None.ensures.next)
