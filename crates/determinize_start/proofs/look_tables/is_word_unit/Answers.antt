use Rattle.determinize_start.proofs.Common.{ap, arith, is_word, sym, ◌<◌, ◌∙◌}
use Rattle.determinize_start.proofs.tables.WordBytes.{word_table}
use Rattle.determinize_start.proofs.look_tables.is_word_unit.Goals as goal

pub returns-in-Some : goal.returns-in-Some
returns-in-Some c =
    let small : c.in-Some.byte < 256 = omega arith in
    word_table c.in-Some.byte small ∙ ap is_word (sym c.in-Some.is ∙ c.as_u8.ensures.byte)
