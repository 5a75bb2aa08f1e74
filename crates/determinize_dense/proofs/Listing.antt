-- The patterns that match where a text ends, as a table lists them.
-- Main statements: each_text_is_listed.
-- Used by: Stepping, and the law of what a table means.
-- Idea: the row after the units of a text lists what the last value of the walk over them lists.
use Rattle.determinize_dense.proofs.Common.{EachTextIsListed, false, list_after, start_in, text_units, units}
use Rattle.determinize_engine.proofs.Lists.{lists_at_end}

pub each_text_is_listed : EachTextIsListed
each_text_is_listed nfa kind d accepted is anchored text behind bytes ahead =
    let listed = lists_at_end nfa kind (start_in nfa anchored) text (list_after nfa d anchored text) accepted
    (is anchored text.behind (units text) behind
    (text_units text.behind false text.bytes text.ahead bytes ahead)) in
    (listed.all, listed.preferred)
