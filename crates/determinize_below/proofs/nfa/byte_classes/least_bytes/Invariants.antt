use Rattle.determinize_below.specs.Private.Partition.{AreAlikeBelow, AreLeast}
use Rattle.determinize_below.proofs.nfa.byte_classes.least_bytes.Given as goal

abbrev pub invariant-loop-index : goal.invariant-loop-index
invariant-loop-index g l = AreLeast (AreAlikeBelow l.nfa l.index) l.partition.least
