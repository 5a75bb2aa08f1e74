use Rattle.determinize_core.proofs.Common.{rules}
use Rattle.determinize_below.specs.Look.{has, insert, meets}
use Rattle.determinize_below.specs.Edges.{reach}
use Rattle.determinize_below.specs.Semantics.{is_word_byte}
use Rattle.determinize_core.specs.Chain.{chain}
use Rattle.determinize_core.specs.Step.{step}
use Rattle.determinize_start.specs.LookTables.{from_word_after, from_word_at_start, half_crlf_after, half_crlf_at_start}
use Rattle.determinize_start.specs.LookTables.{have_after, have_at_start, insert_where, known_set, line_opened, opened}
use Rattle.determinize_start.specs.LookTables.{start_from_word, start_half_crlf, start_have, word_opened}
use Rattle.determinize_state.specs.Spelling.{spell}
use Rattle.determinize_state.specs.Varint.{varint}
use Rattle.determinize_core.proofs.laws.walk_rows_law.Goals as goal

pub returns : goal.returns
unfolding has insert meets reach is_word_byte chain step spell varint
    from_word_after from_word_at_start half_crlf_after half_crlf_at_start have_after have_at_start
    insert_where known_set line_opened opened start_from_word start_half_crlf start_have word_opened
returns c = search rules
