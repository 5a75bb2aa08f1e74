use Rattle.determinize_find.proofs.Common.{IsSearching, left_in, length, ◌≡◌, ◌≤◌}
use Rattle.determinize_find.proofs.streams.Steps.{HasReadBlocks}
use Rattle.determinize_find.proofs.pieces.Pieces.advance.Given as goal

abbrev pub invariant-loop-next : goal.invariant-loop-next
invariant-loop-next g l = record {
  same : l.regex ≡ l.fn.regex;
  read : IsSearching l.fn.regex.nfa l.fn.self
      → HasReadBlocks l.fn.regex.nfa l.fn.self l.self l.fn.piece.now l.piece.now;
  left : left_in l.piece.now l.self ≤ left_in l.fn.piece.now l.fn.self;
}

abbrev pub decreases-loop-next : goal.decreases-loop-next
decreases-loop-next g l = length l.piece.now
