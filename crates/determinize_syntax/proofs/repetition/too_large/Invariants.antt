use Rattle.determinize_syntax.proofs.Common.{length, rest}
use Rattle.determinize_syntax.proofs.repetition.too_large.Given as goal

abbrev pub decreases-loop : goal.decreases-loop
decreases-loop l = length (rest l.cursor)
