use Rattle.determinize_find.proofs.Common.{chunks_rest, chunks_size, IsSearching, ◌≡◌}
use Rattle.determinize_find.proofs.streams.Steps.{HasRead}
use Rattle.determinize_find.proofs.pieces.Pieces.feed.Given as goal

abbrev pub invariant-loop-block : goal.invariant-loop-block
invariant-loop-block g l =
    (goal.iterator-loop-block g).can_next l.block-iterator
    × (goal.iterator-loop-block g).is_finite l.block-iterator
    × (l.regex ≡ l.fn.regex)
    × (chunks_size l.block-iterator ≡ 4096)
    × (IsSearching l.fn.regex.nfa l.fn.self → IsSearching l.fn.regex.nfa l.self
    × HasRead l.fn.regex.nfa l.fn.self l.self l.fn.piece (chunks_rest l.block-iterator)
    l.fn.found.items l.found.items)
