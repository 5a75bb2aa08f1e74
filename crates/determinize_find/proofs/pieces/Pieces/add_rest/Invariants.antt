use Rattle.determinize_find.proofs.Common.{end_before, from, left, length, List, map, Match, moved, take, whole, ◌++◌, ◌≡◌}
use Rattle.determinize_find.proofs.matches.NextMatch.{IsAfter}
use Rattle.determinize_find.proofs.pieces.Pieces.add_rest.Given as goal

abbrev pub invariant-loop-next : goal.invariant-loop-next
invariant-loop-next g l = record {
  same : l.regex ≡ l.fn.regex;
  begins : take (length l.fn.found.items) l.found.items ≡ l.fn.found.items;
  found : (ms : List Match) × (l.found.items ≡ l.fn.found.items ++ map (moved l.self.dropped) ms)
      × IsAfter l.fn.regex.nfa (from (whole l.self.kept) l.self.start) (end_before l.self) l.searcher ms;
}

abbrev pub decreases-loop-next : goal.decreases-loop-next
decreases-loop-next g l = left (length l.self.kept) l.searcher.asked.start l.searcher.before
