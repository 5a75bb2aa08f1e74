use Rattle.determinize_dense.proofs.reading.DfaAutomaton.len.Goals as goal

pub returns-clause-rows : goal.returns-clause-rows
returns-clause-rows g c = record { starts = c.len.ensures.rows.starts; rows = c.len.ensures.rows.rows }
