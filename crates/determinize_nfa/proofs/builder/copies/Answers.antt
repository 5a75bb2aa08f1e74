use Rattle.determinize_nfa.proofs.Common.{append_assoc}
use Rattle.determinize_below.proofs.Moved.{next_of}
use Rattle.determinize_nfa.proofs.builder.copies.Goals as goal

pub loop-state-preserved : goal.loop-state-preserved
loop-state-preserved g c =
    let next = next_of c.args.states.now c.loop-state.state-index c.state-item.result
    c.loop-state-test.true c.state-item.is in
    rw (c.in_ok-push_state.ensures.nodes, append_assoc, c.in_ok-copy.ensures) (rw next at c.loop-state.invariant)
