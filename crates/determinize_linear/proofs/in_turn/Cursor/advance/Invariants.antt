use Rattle.std.proofs.Common.{◌≡◌, ◌+◌, ◌-◌, IsTrue, length}
use Rattle.determinize_linear.proofs.search.Passing.{IsSought}
use Rattle.determinize_linear.proofs.in_turn.Cursor.advance.Given as goal

abbrev pub invariant-loop-text : goal.invariant-loop-text
invariant-loop-text g l = record {
  sought : IsSought (g.S.Matcher.finds (g.S.Matcher.by l.fn.search)) l.text (g.S.Matcher.is_ready l.search l.text)
      (g.S.Matcher.left l.fn.search l.text) (g.S.Matcher.left l.search l.text)
      (g.S.Matcher.most (g.S.Matcher.by l.fn.search)) g.S.Matcher.extra (IsTrue g.C.Counter.counts)
      (g.C.Counter.total l.fn.counter) (g.C.Counter.total l.counter) l.fn.self l.self;
  by : g.S.Matcher.by l.search ≡ g.S.Matcher.by l.fn.search;
}

abbrev pub decreases-loop-text : goal.decreases-loop-text
decreases-loop-text g l = length l.text.bytes + 1 - l.self.at
