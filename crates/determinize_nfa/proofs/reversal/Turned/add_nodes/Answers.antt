use Rattle.determinize_nfa.proofs.Common.{arith, each_passes, if_err_and, inl, most_states, node_of, refl, ◌∙◌}
use Rattle.std.proofs.lemmas.List.{drop_all}
use Rattle.determinize_nfa.proofs.reversing.Counts.{count-none, over_more}
use Rattle.determinize_below.proofs.Moved.{next_of}
use Rattle.determinize_nfa.proofs.reversing.Counts.{larger, room}
use Rattle.determinize_nfa.proofs.reversal.Turned.add_nodes.Goals as goal

pub loop-id-init : goal.loop-id-init
loop-id-init g c =
    rw (rw (c.requires.none, c.start_anchored.ensures.value, c.requires.begin) at c.in_ok-add.ensures.turned)
    (record { count = count-none c.args.nfa.now; rest = refl })

pub add_node-requires-clause-resolves : goal.add_node-requires-clause-resolves
add_node-requires-clause-resolves g c =
    rw c.loop-id.invariant.count
    (each_passes c.args.nfa.now c.state.ensures.accepted c.id-item.result
    (node_of c.state.result.now) c.state.ensures.state).resolves

pub loop-id-preserved : goal.loop-id-preserved
loop-id-preserved g c = rw c.in_ok-add_node.ensures.turned
    (over_more c.args.nfa.now _ c.loop-id.self c.id-item.result _ _ (node_of c.state.result.now) c.loop-id.invariant
    (next_of c.args.ids.now c.loop-id.id-index c.id-item.result c.loop-id-test.true c.id-item.is)
    c.state.ensures.state)

pub returns-in_err-add_node-clause-err : goal.returns-in_err-add_node-clause-err
returns-in_err-add_node-clause-err g c =
    let over = over_more c.args.nfa.now _ c.loop-id.self c.id-item.result _ _ (node_of c.state.result.now)
    c.loop-id.invariant
    (next_of c.args.ids.now c.loop-id.id-index c.id-item.result c.loop-id-test.true c.id-item.is)
    c.state.ensures.state in
    if_err_and c.from_residual-in_err-add_node.result _ _
    (λ e h. rw h (larger _ (most_states c.args.nfa.now) c.in_err-add_node.field-0.0
    (room c.args.nfa.now c.args.ids.now _ _ c.requires.distinct over) c.in_err-add_node.ensures.err))
    c.from_residual-in_err-add_node.ensures.1

pub returns-in_err-add-clause-err : goal.returns-in_err-add-clause-err
returns-in_err-add-clause-err g c =
    if_err_and c.from_residual.result _ _ (λ e h. inl (h ∙ c.in_err-add.ensures.err)) c.from_residual.ensures.1

pub returns-clause-turned : goal.returns-clause-turned
returns-clause-turned g c =
    rw (drop_all c.loop-id.id-index c.args.ids.now (omega arith)) at c.loop-id.invariant.rest

pub returns-clause-count : goal.returns-clause-count
returns-clause-count g c = c.loop-id.invariant.count
