use Rattle.determinize_regex.proofs.stream.Stream.bytes_of.Goals as goal

pub returns-clause-some : goal.returns-clause-some
returns-clause-some g c = rw (← c.self.view_is) c.bytes_of.ensures.some

pub returns-clause-bytes : goal.returns-clause-bytes
returns-clause-bytes g c = rw (← c.self.view_is) c.bytes_of.ensures.text
