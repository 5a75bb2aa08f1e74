use Rattle.determinize_stored.proofs.Paths.{rows_in}
use Rattle.determinize_stored.proofs.stored.StoredDfaAutomaton.len.Goals as goal

pub returns-clause-rows : goal.returns-clause-rows
returns-clause-rows c = rows_in c.args.self.now c.len.ensures.whole
