use Rattle.std.proofs.Common.{arith}
use Rattle.std.proofs.lemmas.List.{places}
use Rattle.determinize_table.proofs.table.TransitionTable.new.Goals as goal

pub returns : goal.returns
returns g c = record { table = rw c.new.ensures; starts = λ i. grind (arith, places) }
