use Rattle.determinize_nfa.proofs.Common.{append_assoc}
use Rattle.determinize_nfa.proofs.reversal.gather_all.Goals as goal

pub loop-alternates-preserved : goal.loop-alternates-preserved
loop-alternates-preserved g c =
    rw (c.in_ok-push_state.ensures.nodes, append_assoc, c.gathered.ensures)
    (rw c.in-Some.ensures.steps.0 at c.loop-alternates.invariant)
