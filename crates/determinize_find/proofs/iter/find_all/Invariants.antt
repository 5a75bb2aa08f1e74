use Rattle.determinize_find.proofs.Common.{left, None, ◌≡◌}
use Rattle.determinize_find.proofs.matches.NextMatch.{IsAfter}
use Rattle.determinize_find.proofs.iter.find_all.Given as goal

abbrev pub invariant-loop-found : goal.invariant-loop-found
invariant-loop-found g l = record {
  same : l.finder ≡ l.fn.finder;
  after : IsAfter (g.F.Finder.nfa l.fn.finder) l.fn.input None l.searcher l.all.items;
}

abbrev pub decreases-loop-found : goal.decreases-loop-found
decreases-loop-found g l = left l.fn.input.end l.searcher.asked.start l.searcher.before
