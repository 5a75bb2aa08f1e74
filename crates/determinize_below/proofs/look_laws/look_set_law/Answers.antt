use Rattle.determinize_below.proofs.Common.{arith}
use Rattle.determinize_below.proofs.looks.LookSets.{same_sets, Decides-empty}
use Rattle.determinize_below.proofs.look_laws.look_set_law.Goals as goal

pub returns-clause-members : goal.returns-clause-members
returns-clause-members c = same_sets c.args.set c.args.other (omega arith) (omega arith)

pub returns-clause-is_empty : goal.returns-clause-is_empty
returns-clause-is_empty c = Decides-empty c.args.set (omega arith)
