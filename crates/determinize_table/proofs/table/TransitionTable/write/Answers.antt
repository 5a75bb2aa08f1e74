use Rattle.determinize_table.proofs.Writing.{stored, stored_one, within_rows, written_one}
use Rattle.determinize_table.proofs.table.TransitionTable.write.Goals as goal

pub index_mut-requires : goal.index_mut-requires
index_mut-requires g c = within_rows (stored c.self.inside.states c.self.inside.rows.items c.self.inside.starts)
    c.self.invariant.stored (rw (← c.self.view_is) at c.requires.source)
    c.row.ensures c.column.ensures.limit c.self.inside.rows.ok.0

pub invariant_of-self : goal.invariant_of-self
invariant_of-self g c = record {
  stored = rw (c.row.ensures, c.column.ensures.value, c.entry.ensures)
      (stored_one (stored c.self.inside.states c.self.inside.rows.items c.self.inside.starts) c.self.invariant.stored
      c.args.source c.args.target c.args.unit (rw (← c.self.view_is) at c.requires.source)
      (rw (← c.self.view_is) at c.requires.target) c.column.ensures.is_unit);
  looping = tt;
}

pub returns : goal.returns
returns g c = rw (← c.self.view_is, c.row.ensures, c.column.ensures.value, c.entry.ensures)
    (written_one (stored c.self.inside.states c.self.inside.rows.items c.self.inside.starts) c.self.invariant.stored
    c.args.source c.args.target c.args.unit (rw (← c.self.view_is) at c.requires.source)
    (rw (← c.self.view_is) at c.requires.target) c.column.ensures.is_unit)
