use Rattle.std.proofs.Common.{◌≡◌, map, drop, true}
use Rattle.determinize_pattern.specs.Patterns.{choice, sequence, meaning}
use Rattle.determinize_pattern.specs.Private.Compiling.{AlwaysReads}
use Rattle.determinize_pattern.proofs.always_reads.+always_reads.Given as goal

abbrev pub invariant-some_reads-loop-i : goal.invariant-some_reads-loop-i
invariant-some_reads-loop-i l = l.reads ≡ true → AlwaysReads (sequence (map meaning (drop l.i l.subs)))

abbrev pub invariant-each_reads-loop-i : goal.invariant-each_reads-loop-i
invariant-each_reads-loop-i l = l.reads ≡ true → AlwaysReads (choice (map meaning (drop l.i l.subs)))
