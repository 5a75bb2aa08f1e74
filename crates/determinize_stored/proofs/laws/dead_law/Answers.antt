use Rattle.determinize_stored.proofs.Paths.{dead_stop}
use Rattle.determinize_stored.proofs.laws.dead_law.Goals as goal

pub returns : goal.returns
returns c = dead_stop
