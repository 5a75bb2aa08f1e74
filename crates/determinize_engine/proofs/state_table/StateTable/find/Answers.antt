use Rattle.determinize_engine.proofs.Places.{index_few}
use Rattle.determinize_engine.proofs.state_table.StateTable.find.Goals as goal

pub returns-clause-index : goal.returns-clause-index
returns-clause-index g c = rw (← c.self.view_is, c.copied.ensures, c.get.ensures.value)
    (c.self.invariant.mapped c.args.state.now)

pub returns-clause-limit : goal.returns-clause-limit
returns-clause-limit g c = rw (c.copied.ensures, c.get.ensures.value) (index_few c.self.invariant c.args.state.now)
