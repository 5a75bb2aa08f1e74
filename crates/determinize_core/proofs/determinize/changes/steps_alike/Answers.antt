use Rattle.determinize_core.proofs.Common.{rules}
use Rattle.determinize_core.proofs.step.SharedSteps.{one_step, targets_along}
use Rattle.determinize_core.proofs.determinize.changes.steps_alike.Goals as goal

pub returns-then-stays_closed : goal.returns-then-stays_closed
returns-then-stays_closed g c = λ closed kind.
    one_step c.args.nfa.now c.args.state.now c.args.first c.args.second kind
    (targets_along c.args.nfa.now c.args.state.now.states c.args.changes.now c.requires.changes c.args.first
    c.args.second c.requires.order (search rules) (c.is_unmarked.ensures (search rules)))
    (search rules) (search rules) (search rules)
