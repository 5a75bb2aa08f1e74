use Rattle.determinize_dense.proofs.rows.Rows.len.Goals as goal

pub returns-clause-sound : goal.returns-clause-sound
returns-clause-sound g c = rw (← c.self.view_is) c.self.invariant
