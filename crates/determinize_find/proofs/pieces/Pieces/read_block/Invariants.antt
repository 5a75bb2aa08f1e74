use Rattle.determinize_find.proofs.Common.{IsFed, IsSearching, left_in, [], ◌≡◌}
use Rattle.determinize_find.proofs.pieces.Pieces.read_block.Given as goal

abbrev pub invariant-loop-next : goal.invariant-loop-next
invariant-loop-next g l = record {
  same : l.regex ≡ l.fn.regex;
  read : IsSearching l.fn.regex.nfa l.fn.self
      → IsFed l.fn.regex.nfa l.fn.self l.self l.fn.block l.fn.found.items l.found.items
      × IsSearching l.fn.regex.nfa l.self;
}

abbrev pub decreases-loop-next : goal.decreases-loop-next
decreases-loop-next g l = left_in [] l.self
