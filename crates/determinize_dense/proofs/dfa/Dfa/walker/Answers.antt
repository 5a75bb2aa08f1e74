use Rattle.determinize_dense.proofs.Common.{rules}
use Rattle.determinize_dense.proofs.Offsets.{row-of}
use Rattle.determinize_dense.proofs.dfa.Dfa.walker.Goals as goal

pub returns-clause-value : goal.returns-clause-value
returns-clause-value g c = rw (row-of c.args.self.now.table c.start_row.ensures.value) (search rules)
