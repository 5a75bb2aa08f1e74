use Rattle.determinize_syntax.proofs.Common.{◌≡◌, Reads, is_name, length, rest, true}
use Rattle.determinize_syntax.proofs.group.letters_of_name.Given as goal

abbrev pub invariant-loop-next : goal.invariant-loop-next
invariant-loop-next l = Reads l.fn.cursor l.cursor (λ t. is_name t ≡ true)

abbrev pub decreases-loop-next : goal.decreases-loop-next
decreases-loop-next l = length (rest l.cursor)
