use Rattle.determinize_below.proofs.Common.{arith}
use Rattle.determinize_below.proofs.nfas.Partitions.{alike_more, alike_all}
use Rattle.determinize_below.proofs.nfa.byte_classes.least_bytes.Goals as goal

pub loop-index-preserved : goal.loop-index-preserved
loop-index-preserved g c = alike_more c.args.nfa.now _ _ _ _ _ c.must.ensures c.state.ensures.state
    c.loop-index.invariant c.split_state.ensures

pub returns-clause-least : goal.returns-clause-least
returns-clause-least g c = alike_all c.args.nfa.now _ _
    (omega (arith, c.loop-index-test.false, c.len-index-end.ensures.count)) c.loop-index.invariant
