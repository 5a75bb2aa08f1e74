use Rattle.determinize_dense.proofs.Least.{has_rows}
use Rattle.determinize_dense.proofs.dfa.Dfa.len.Goals as goal

pub returns-clause-rows : goal.returns-clause-rows
returns-clause-rows g c = rw (← c.self.view_is) (has_rows _ c.self.invariant.stored.dfa)
