use Rattle.determinize_below.proofs.Common.{is_marked}
use Rattle.determinize_below.proofs.nfas.TestSplits.{IsSplitBelow}
use Rattle.determinize_below.proofs.nfa.byte_classes.split_classes.Given as goal

abbrev pub invariant-loop-byte : goal.invariant-loop-byte
invariant-loop-byte l = IsSplitBelow (is_marked l.inside) l.fn.least l.byte l.least l.others
