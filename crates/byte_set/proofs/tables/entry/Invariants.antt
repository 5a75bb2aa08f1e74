use Rattle.byte_set.proofs.Members.{HasBits, HasNoBitFrom}
use Rattle.byte_set.proofs.tables.entry.Given as goal

abbrev pub invariant-loop-high : goal.invariant-loop-high
invariant-loop-high l = record {
  has : HasBits l.members l.first l.high l.entry;
  clear : HasNoBitFrom l.high l.entry;
}
