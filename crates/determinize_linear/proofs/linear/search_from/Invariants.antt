use Rattle.std.proofs.Common.{◌+◌, ◌≤◌, IsTrue, length, nat_eq, reverse}
use Rattle.determinize_core.proofs.step.WorkingLists.{fuel}
use Rattle.ordered_reach.proofs.runs.ByPosition.{pair_eq}
use Rattle.determinize_linear.specs.Private.Left.{left}
use Rattle.determinize_linear.specs.Private.Marks.{is_marked}
use Rattle.determinize_linear.specs.Private.Spent.{HasPlaces}
use Rattle.determinize_linear.proofs.search.Counted.{IsCounted}
use Rattle.determinize_linear.proofs.search.Pending.{run_steps}
use Rattle.determinize_linear.proofs.search.Skipping.{tries}
use Rattle.determinize_linear.proofs.search.UnderWay.{IsUnderWay}
use Rattle.determinize_linear.proofs.linear.search_from.Given as goal

abbrev pub invariant-loop-at : goal.invariant-loop-at
invariant-loop-at g l = record {
  way : IsUnderWay l.nfa l.text l.from l.visited (reverse l.stack.items);
  places : HasPlaces l.nfa l.text l.visited;
  paid : g.C.Counter.total l.counter + length l.stack.items
      + left l.nfa l.text l.from l.visited
      ≤ g.C.Counter.total l.initial.counter + 1 + left l.nfa l.text l.from l.initial.visited;
  counted : IsTrue g.C.Counter.counts → IsCounted (g.C.Counter.total l.initial.counter)
      (g.C.Counter.total l.counter) l.from (reverse l.stack.items);
}

abbrev pub decreases-loop-at : goal.decreases-loop-at
decreases-loop-at g l = tries (pair_eq nat_eq) (run_steps l.nfa l.text) (fuel l.nfa (length l.text.bytes))
    (is_marked l.visited) (reverse l.stack.items)
