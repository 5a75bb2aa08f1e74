use Rattle.determinize_core.proofs.Common.{All-from_member, append-nil, length, same_decides, ◌<◌}
use Rattle.ordered_reach.proofs.graph.FiniteGraphs.{fresh_below}
use Rattle.determinize_core.proofs.step.StepParts.{member-below}
use Rattle.determinize_core.proofs.determinize.working_list.reopen.Goals as goal

pub explore-requires-clause-resolve : goal.explore-requires-clause-resolve
explore-requires-clause-resolve g c =
    let n = length c.args.nfa.now.states in
    rw (c.as_slice.ensures.ids, c.collect_states.ensures.ids, c.requires.scratch.empty, append-nil)
    (All-from_member same_decides (λ id. id < n) _
    (fresh_below n c.args.state.now.states (member-below n c.args.state.now.states c.requires.resolve)))

pub returns-in_err-explore-clause-bounded : goal.returns-in_err-explore-clause-bounded
returns-in_err-explore-clause-bounded g c = λ h.
    rw (c.as_slice.ensures.ids, c.collect_states.ensures.ids, c.requires.scratch.empty, append-nil)
    at (c.explore.ensures.bounded h)

pub returns-clause-list : goal.returns-clause-list
returns-clause-list g c =
    rw (c.as_slice.ensures.ids, c.collect_states.ensures.ids, c.requires.scratch.empty, append-nil)
    at c.in_ok-explore.ensures.ids

pub returns-clause-resolve : goal.returns-clause-resolve
returns-clause-resolve g c =
    rw (c.as_slice.ensures.ids, c.collect_states.ensures.ids, c.requires.scratch.empty, append-nil)
    at c.explore.ensures.resolve

pub returns-clause-counted : goal.returns-clause-counted
returns-clause-counted g c = λ h.
    rw (c.as_slice.ensures.ids, c.collect_states.ensures.ids, c.requires.scratch.empty, append-nil)
    at (c.in_ok-explore.ensures.counted h)

pub returns-clause-bounded : goal.returns-clause-bounded
returns-clause-bounded g c = λ h.
    rw (c.as_slice.ensures.ids, c.collect_states.ensures.ids, c.requires.scratch.empty, append-nil)
    at (c.explore.ensures.bounded h)
