use Rattle.std.proofs.Common.{All, take}
use Rattle.determinize_pattern.specs.Private.Characters.{ArePart, HasNumber}
use Rattle.determinize_pattern.proofs.utf8.part_of.Given as goal

abbrev pub invariant-loop-run : goal.invariant-loop-run
invariant-loop-run l =
    ArePart (take l.run-index l.runs) l.low l.high l.base l.part.items × All HasNumber l.part.items
