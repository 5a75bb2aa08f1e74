use Rattle.determinize_below.proofs.sets.SparseSets.{cleared_all}
use Rattle.determinize_below.proofs.sparse_set.clear_bits.Goals as goal

pub returns-then-words-eq1 : goal.returns-then-words-eq1
returns-then-words-eq1 c = rw (c.fill.ensures.after (λ y e. e)) (cleared_all _ _ _)
