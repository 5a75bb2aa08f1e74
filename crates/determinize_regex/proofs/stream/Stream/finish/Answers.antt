use Rattle.determinize_regex.proofs.Common.{on_ok_weaker}
use Rattle.determinize_regex.proofs.StreamsOfPatterns.{finished_of}
use Rattle.determinize_regex.proofs.stream.Stream.finish.Goals as goal

pub returns-clause-finished : goal.returns-clause-finished
returns-clause-finished g c = rw (← c.self.view_is) (on_ok_weaker c.finish.result
    (finished_of c.self.invariant.regex c.self.invariant.accepted) c.finish.ensures.finished)
