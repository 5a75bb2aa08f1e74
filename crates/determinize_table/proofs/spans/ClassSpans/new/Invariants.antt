use Rattle.determinize_table.proofs.ClassRuns.{AreSpansBelow}
use Rattle.determinize_table.proofs.spans.ClassSpans.new.Given as goal

abbrev pub invariant-loop-byte : goal.invariant-loop-byte
invariant-loop-byte l = AreSpansBelow l.classes l.byte l.first l.lasts l.runs
