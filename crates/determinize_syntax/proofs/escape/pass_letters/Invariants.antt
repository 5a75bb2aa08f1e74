use Rattle.determinize_syntax.proofs.Common.{◌≡◌, Reads, is_in_boundary, length, list_all, rest, true}
use Rattle.determinize_syntax.proofs.escape.pass_letters.Given as goal

abbrev pub invariant-loop-next : goal.invariant-loop-next
invariant-loop-next l = Reads l.fn.cursor l.cursor (λ t. list_all is_in_boundary t ≡ true)

abbrev pub decreases-loop-next : goal.decreases-loop-next
decreases-loop-next l = length (rest l.cursor)
