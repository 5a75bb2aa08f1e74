use Rattle.determinize_below.proofs.Common.{take, MarksChanges, sparse_target}
use Rattle.determinize_below.proofs.nfa.changes.mark_ranges.Given as goal

abbrev pub invariant-loop-trans : goal.invariant-loop-trans
invariant-loop-trans l = MarksChanges (sparse_target (take l.trans-index l.transitions)) l.initial.marks l.marks
