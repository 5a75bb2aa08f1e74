-- The example walks and searches over one cache, computed.
-- Main statements: are_worked_rows.
-- Used by: `cache_rows_law`.
-- Idea: each side of an equation computes to the same value, once the definitions are unfolded.
use Rattle.determinize_below.specs.Look.{insert, meets}
use Rattle.determinize_below.specs.Semantics.{is_word_byte}
use Rattle.determinize_start.specs.LookTables.{from_word_at_start, half_crlf_at_start, have_at_start, insert_where}
use Rattle.determinize_start.specs.LookTables.{known_set, line_opened, opened, start_from_word, start_half_crlf, start_have, word_opened}
use Rattle.determinize_core.proofs.Common.{chain, from_word_after, half_crlf_after, has, have_after, reach, step}
use Rattle.determinize_core.specs.Spelling.{spell}
use Rattle.determinize_core.specs.Varint.{varint}
use Rattle.determinize_lazy.specs.Cache.{after_text}
use Rattle.determinize_lazy.specs.CachedSearches.{after_search}
use Rattle.determinize_engine.specs.Searches.{last_in}
use Rattle.determinize_lazy.specs.Clauses.{AreWorkedRows}

pub are_worked_rows : AreWorkedRows
unfolding has insert is_word_byte meets insert_where known_set word_opened line_opened opened
    have_after from_word_after half_crlf_after start_have start_from_word start_half_crlf have_at_start
    from_word_at_start half_crlf_at_start reach step spell varint chain after_text after_search last_in
are_worked_rows = assumption
