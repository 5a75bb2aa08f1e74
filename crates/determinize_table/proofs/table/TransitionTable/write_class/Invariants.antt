use Rattle.determinize_table.proofs.Common.{IsWritten, ◌-◌}
use Rattle.determinize_table.proofs.Writing.{class_below}
use Rattle.determinize_table.proofs.table.TransitionTable.write_class.Given as goal

abbrev pub invariant-loop-first : goal.invariant-loop-first
invariant-loop-first g l =
    IsWritten (class_below l.fn.spans l.fn.byte l.first) l.fn.self l.fn.source l.fn.target l.self

abbrev pub decreases-loop-first : goal.decreases-loop-first
decreases-loop-first g l = 256 - l.first
