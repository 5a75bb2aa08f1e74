use Rattle.determinize_below.proofs.primitives.PatternIDErrorDisplay.fmt.Goals as goal

pub returns-clause-writes : goal.returns-clause-writes
returns-clause-writes g c = λ plain ok. rw (← c.self.view_is) (c.write.ensures.writes plain ok)
