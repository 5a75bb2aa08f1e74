use Rattle.std.proofs.Common.{◌≡◌, ◌+◌, ◌-◌, IsTrue, false, length}
use Rattle.determinize_engine.specs.Searches.{text_of}
use Rattle.determinize_linear.proofs.search.Collected.{HasCollected}
use Rattle.determinize_linear.proofs.in_turn.find_all_by.Given as goal

abbrev pub invariant-loop-next : goal.invariant-loop-next
invariant-loop-next g l = record {
  collected : HasCollected (g.S.Matcher.finds (g.S.Matcher.by l.initial.search)) l.input (text_of false l.input)
      (g.S.Matcher.is_ready l.search (text_of false l.input))
      (g.S.Matcher.left l.initial.search (text_of false l.input)) (g.S.Matcher.left l.search (text_of false l.input))
      (g.S.Matcher.most (g.S.Matcher.by l.initial.search) + g.S.Matcher.extra) (IsTrue g.C.Counter.counts)
      (g.C.Counter.total l.initial.counter) (g.C.Counter.total l.counter) l.cursor l.found.items;
  by : g.S.Matcher.by l.search ≡ g.S.Matcher.by l.initial.search;
  anchored : l.cursor.is_anchored ≡ l.is_anchored;
}

abbrev pub decreases-loop-next : goal.decreases-loop-next
decreases-loop-next g l = length (text_of false l.input).bytes + 1 - l.cursor.at
