use Rattle.determinize_start.proofs.tables.OpenedSet.{has-word_set}
use Rattle.determinize_start.proofs.look_tables.words_opened.Goals as goal

pub returns : goal.returns
returns c = λ look. rw (c.word_set.ensures, c.is_word_unit.ensures) (has-word_set _ _ look)
