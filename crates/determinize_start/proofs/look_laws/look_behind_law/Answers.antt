use Rattle.determinize_start.proofs.Common.{tables}
use Rattle.determinize_start.proofs.tables.StepTables.{has-have_after, have_after-known}
use Rattle.determinize_start.proofs.look_laws.look_behind_law.Goals as goal

pub returns-clause-known : goal.returns-clause-known
returns-clause-known c = have_after-known (tables c.args.reverse c.args.terminator c.args.any) c.args.byte c.args.look

pub returns-clause-all : goal.returns-clause-all
returns-clause-all c = has-have_after (tables c.args.reverse c.args.terminator c.args.any) c.args.byte c.args.look
