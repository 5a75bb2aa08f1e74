use Rattle.determinize_below.proofs.Common.{IsCleared, take}
use Rattle.determinize_below.proofs.sparse_set.clear_words.Given as goal

abbrev pub invariant-loop-id : goal.invariant-loop-id
invariant-loop-id l = IsCleared l.fn.words l.words (take l.id-index l.ids)
