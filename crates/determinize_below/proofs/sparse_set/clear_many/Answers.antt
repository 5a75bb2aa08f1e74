use Rattle.determinize_below.proofs.sets.SparseSets.{cleared_all}
use Rattle.determinize_below.proofs.sparse_set.clear_many.Goals as goal

pub returns-then-ids-words : goal.returns-then-ids-words
returns-then-ids-words c = rw (c.fill.ensures.after (λ y e. e)) (cleared_all _ _ _)
