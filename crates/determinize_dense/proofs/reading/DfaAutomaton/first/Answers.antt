use Rattle.determinize_dense.proofs.Common.{start_row}
use Rattle.determinize_dense.proofs.Offsets.{row-of}
use Rattle.determinize_dense.proofs.reading.DfaAutomaton.first.Goals as goal

pub returns-clause-value : goal.returns-clause-value
returns-clause-value g c = row-of c.args.self.now.table c.start_row.ensures.value

pub returns-clause-row : goal.returns-clause-row
returns-clause-row g c = (
  start_row c.args.self.now.nfa c.args.self.now.table c.args.is_anchored c.args.look_behind,
  c.start_row.ensures.limit,
  c.start_row.ensures.value,
)
