use Rattle.determinize_table.proofs.Common.{refl}
use Rattle.determinize_table.proofs.Writing.{shares-alone, written_as, written_then}
use Rattle.determinize_table.proofs.table.TransitionTable.write_shared.Goals as goal

pub returns-in-Some-unit : goal.returns-in-Some-unit
returns-in-Some-unit g c = rw (c.in-Some.is, c.in-Some-unit.is) (written_as (λ y. refl)
    (written_then (rw c.in-Some-unit.is at c.write.ensures) c.write_class.ensures))

pub returns-in-None : goal.returns-in-None
returns-in-None g c = rw (c.in-Some.is, c.in-None.is) (written_as (shares-alone c.in-Some.spans.now)
    (rw c.in-None.is at c.write.ensures))
