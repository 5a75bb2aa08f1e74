use Rattle.determinize_pattern.proofs.characters.Written.{AreAlike}
use Rattle.determinize_pattern.proofs.utf8.past_alike.Given as goal

abbrev pub invariant-loop-next : goal.invariant-loop-next
invariant-loop-next l = AreAlike l.count l.runs l.digit l.next l.rest
