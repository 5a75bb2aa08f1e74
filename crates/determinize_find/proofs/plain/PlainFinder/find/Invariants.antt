use Rattle.determinize_find.proofs.Common.{◌≡◌}
use Rattle.determinize_find.proofs.leftmost.SearchInTurn.{NothingBefore}
use Rattle.determinize_find.proofs.plain.PlainFinder.find.Given as goal

abbrev pub invariant-loop-at : goal.invariant-loop-at
invariant-loop-at g l =
    record { same : l.self ≡ l.fn.self; nothing : NothingBefore l.fn.self.nfa l.input l.at }
