use Rattle.determinize_dense.proofs.Least.{least_is_least}
use Rattle.determinize_dense.proofs.laws.least_law.Goals as goal

pub returns : goal.returns
returns c = least_is_least
