use Rattle.determinize_start.proofs.Common.{tables}
use Rattle.determinize_start.proofs.tables.StepTables.{IsFlagged-after}
use Rattle.determinize_start.proofs.look_laws.flags_law.Goals as goal

pub returns : goal.returns
returns c = IsFlagged-after (tables c.args.reverse c.args.terminator c.args.any) c.args.before
