use Rattle.determinize_table.proofs.Writing.{range_filled}
use Rattle.determinize_table.proofs.table.TransitionTable.write_range.Goals as goal

pub invariant_of-self : goal.invariant_of-self
invariant_of-self g c = record {
  stored = (range_filled c.self.inside.states c.self.inside.rows c.self.inside.starts c.self.invariant.stored
      c.args.source c.args.target c.args.first c.args.end (rw (← c.self.view_is) at c.requires.source)
      (rw (← c.self.view_is) at c.requires.target) c.requires.range c.deref_mut.result.now c.fill.new.self
      c.row-row.ensures c.entry.ensures c.deref_mut.ensures.value (c.fill.ensures.after (λ y is. is))).0;
  looping = tt;
}

pub returns : goal.returns
returns g c = rw (← c.self.view_is) (range_filled c.self.inside.states c.self.inside.rows c.self.inside.starts
    c.self.invariant.stored c.args.source c.args.target c.args.first c.args.end
    (rw (← c.self.view_is) at c.requires.source) (rw (← c.self.view_is) at c.requires.target) c.requires.range
    c.deref_mut.result.now c.fill.new.self c.row-row.ensures c.entry.ensures c.deref_mut.ensures.value
    (c.fill.ensures.after (λ y is. is))).1
