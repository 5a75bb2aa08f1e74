use Rattle.determinize_below.proofs.Common.{arith}
use Rattle.determinize_below.proofs.nfas.Boundaries.{ranges_more}
use Rattle.determinize_below.proofs.nfa.changes.mark_ranges.Goals as goal

pub loop-trans-preserved : goal.loop-trans-preserved
loop-trans-preserved c =
    ranges_more c.args.transitions.now c.loop-trans.trans-index c.trans-item.result c.args.marks.now c.loop-trans.marks
    c.mark_between.new.marks (omega arith) c.trans-item.is c.loop-trans.invariant c.mark_between.ensures
