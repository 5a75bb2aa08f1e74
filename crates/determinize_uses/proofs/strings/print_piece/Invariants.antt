use Rattle.determinize_find.specs.Streams.{left_in}
use Rattle.determinize_uses.proofs.strings.print_piece.Given as goal

abbrev pub decreases-loop-found : goal.decreases-loop-found
decreases-loop-found g l = left_in l.piece l.stream.pieces
