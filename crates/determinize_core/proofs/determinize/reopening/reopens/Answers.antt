use Rattle.determinize_core.proofs.step.Reopening.{reopens}
use Rattle.determinize_core.proofs.determinize.reopening.reopens.Goals as goal

pub returns : goal.returns
returns c =
    reopens c.args.found c.args.have c.args.need c.subtract.result c.is_empty.result c.subtract.ensures.members
    (rw c.intersect.ensures at c.is_empty.ensures.members)
