use Rattle.determinize_find.proofs.streams.Begun.{each_busy_has_begun, each_idle_is_fresh}
use Rattle.determinize_find.proofs.laws.idle_law.Goals as goal

pub returns-clause-fresh : goal.returns-clause-fresh
returns-clause-fresh c = each_idle_is_fresh

pub returns-clause-busy : goal.returns-clause-busy
returns-clause-busy c = each_busy_has_begun
