use Rattle.determinize_below.proofs.Common.{get_or, None}
use Rattle.determinize_below.proofs.nfas.TargetSplits.{IsSplitting}
use Rattle.determinize_below.proofs.nfa.byte_classes.Partition.split_targets.Given as goal

abbrev pub invariant-loop-byte : goal.invariant-loop-byte
invariant-loop-byte l = IsSplitting (λ b. get_or l.targets b None) l.fn.self.least l.high l.byte l.self.least
