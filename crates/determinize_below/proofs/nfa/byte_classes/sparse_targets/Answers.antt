use Rattle.determinize_below.proofs.Common.{arith, None}
use Rattle.determinize_below.proofs.Written.{replicated}
use Rattle.determinize_below.proofs.nfas.SortedRanges.{target_more}
use Rattle.determinize_below.proofs.nfa.byte_classes.sparse_targets.Goals as goal

pub loop-trans-init : goal.loop-trans-init
loop-trans-init c = λ b h. replicated 256 b None

pub loop-trans-preserved : goal.loop-trans-preserved
loop-trans-preserved c = λ b h.
    let more = target_more c.args.transitions.now c.loop-trans.trans-index c.trans-item.result b c.requires
    (omega arith) c.trans-item.is in
    grind (arith, c.write_range.ensures b h, more, c.loop-trans.invariant b h)
