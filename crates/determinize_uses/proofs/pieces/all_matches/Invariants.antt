use Rattle.std.proofs.Common.{◌≡◌, map, take}
use Rattle.std.specs.List.{concat}
use Rattle.determinize_regex.specs.Streams.{IsStreamOf}
use Rattle.determinize_uses.proofs.pieces.all_matches.Given as goal

abbrev pub invariant-loop-piece : goal.invariant-loop-piece
invariant-loop-piece l = record {
  same : l.stream.regex ≡ l.fn.stream.regex;
  stream : IsStreamOf l.stream (concat (map (λ piece. piece.now) (take l.piece-index l.pieces))) l.found.items;
}
