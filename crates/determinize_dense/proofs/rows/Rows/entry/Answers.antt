use Rattle.determinize_dense.proofs.Common.{arith, get_or_default_zero, length, ◌*◌, ◌+◌, ◌<◌}
use Rattle.determinize_dense.proofs.Refining.{entry-below}
use Rattle.determinize_dense.proofs.Offsets.{entry-at}
use Rattle.determinize_dense.proofs.rows.Rows.entry.Goals.{After-alphabet_len}
use Rattle.determinize_dense.proofs.rows.Rows.entry.Goals as goal

-- the entry is there
there : (g : _) (c : After-alphabet_len g)
    → c.args.row * c.alphabet_len.result + c.args.column < length c.self.inside.next.items
there g c = rw c.alphabet_len.ensures.count (entry-at _ c.self.invariant.table c.args.row c.args.column
    (rw (← c.self.view_is) at c.requires.row) (rw (← c.self.view_is) at c.requires.column))

pub returns-clause-value : goal.returns-clause-value
returns-clause-value g c = rw (← c.self.view_is) (grind (arith, get_or_default_zero, there))

pub returns-clause-limit : goal.returns-clause-limit
returns-clause-limit g c = rw (returns-clause-value g c) (entry-below c.args.self.now.table
    (rw c.self.view_is at c.self.invariant).table c.args.row c.args.column c.requires.row c.requires.column)
