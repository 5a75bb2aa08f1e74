use Rattle.determinize_lazy.proofs.{AreMarked, Contains, cursor_value, take}
use Rattle.determinize_lazy.proofs.lazy.LazyDfa.mark.Given as goal

abbrev pub invariant-loop-index : goal.invariant-loop-index
invariant-loop-index g l =
    AreMarked l.fn.found (Contains (take l.index (cursor_value l.self.states l.at.cursor).patterns)) l.found
