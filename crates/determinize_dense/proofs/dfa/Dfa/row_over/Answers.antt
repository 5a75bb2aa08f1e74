use Rattle.determinize_dense.proofs.Common.{arith}
use Rattle.determinize_dense.proofs.Offsets.{over-stored, rest-index, rest-length}
use Rattle.determinize_dense.proofs.dfa.Dfa.row_over.Goals as goal

pub bounds-column-row : goal.bounds-column-row
bounds-column-row g c = grind (arith, over-stored, rest-length)

pub returns-clause-value : goal.returns-clause-value
returns-clause-value g c = λ r h e. grind (arith, over-stored, rest-index)
