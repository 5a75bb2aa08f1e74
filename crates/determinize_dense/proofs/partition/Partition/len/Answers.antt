use Rattle.determinize_dense.proofs.Common.{rules}
use Rattle.determinize_dense.proofs.Splitting.{few_blocks}
use Rattle.determinize_dense.proofs.partition.Partition.len.Goals as goal

pub returns-clause-few : goal.returns-clause-few
returns-clause-few g c = rw (← c.self.view_is) (let few = few_blocks c.self.invariant in search rules)
