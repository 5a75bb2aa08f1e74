use Rattle.determinize_core.proofs.Common.{tables_of}
use Rattle.determinize_below.specs.Reached.{known}
use Rattle.determinize_start.proofs.kinds.StartKinds.{start_have-known}
use Rattle.determinize_core.proofs.determinize.lookbehind.set_lookbehind_from_start.Goals as goal

pub returns-clause-known : goal.returns-clause-known
unfolding known
returns-clause-known g c = start_have-known (tables_of c.args.nfa.now) c.args.start.now
