use Rattle.determinize_below.proofs.Common.{AreTestedAlike}
use Rattle.determinize_below.specs.Private.Partition.{AreLeastBelow}
use Rattle.determinize_below.proofs.nfa.byte_classes.Partition.new.Given as goal

abbrev pub invariant-loop-byte : goal.invariant-loop-byte
invariant-loop-byte g l = AreLeastBelow l.byte (AreTestedAlike l.nfa) l.least
