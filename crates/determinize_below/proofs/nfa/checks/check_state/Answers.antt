use Rattle.determinize_below.proofs.Common.{arith, nat_tests}
use Rattle.determinize_below.proofs.nfa.checks.check_state.Goals as goal

pub returns-else-not-branch-clause-after : goal.returns-else-not-branch-clause-after
returns-else-not-branch-clause-after g c = λ q.
    grind (arith, nat_tests, c.in-Match.is, c.in_ok-insert-in-Match.ensures.updates.0 q)
