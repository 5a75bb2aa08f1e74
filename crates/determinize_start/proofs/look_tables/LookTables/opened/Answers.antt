use Rattle.determinize_start.proofs.tables.OpenedSet.{has-opened}
use Rattle.determinize_start.proofs.look_tables.LookTables.opened.Goals as goal

pub returns : goal.returns
returns c = λ look. rw (c.union.ensures, c.line_set.ensures)
    (has-opened _ _ _ _ _ look (c.words_opened.ensures look))
