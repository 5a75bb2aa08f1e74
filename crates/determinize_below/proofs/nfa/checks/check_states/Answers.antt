use Rattle.determinize_below.proofs.Common.{[], None, ap, arith, drop, length, length-map, map, node_of, refl, states_failure, take, ◌<◌, ◌≡◌, ◌∙◌}
use Rattle.std.proofs.lemmas.List.{length-drop, nil_from_length}
use Rattle.std.proofs.lemmas.Result.{err_from_is_err_and}
use Rattle.determinize_below.proofs.nfas.StateChecks.{seen-turn, states_failure-turn}
use Rattle.determinize_below.proofs.nfa.checks.check_states.Goals as goal

pub loop-index-preserved : goal.loop-index-preserved
loop-index-preserved g c =
    let within : c.loop-index.index < length c.args.states.now = omega arith in
    record {
      same = c.loop-index.invariant.same ∙ states_failure-turn node_of _ _ _ within c.index-states-index.is _
          c.loop-index.invariant.seen _ None c.in_ok-check_state.ensures.ok;
      seen = seen-turn node_of _ _ _ within c.index-states-index.is _ c.loop-index.invariant.seen _
          c.in_ok-check_state.ensures.after;
    }

pub returns-in_err-check_state-clause-err : goal.returns-in_err-check_state-clause-err
returns-in_err-check_state-clause-err g c =
    let p = err_from_is_err_and c.from_residual.result c.from_residual.ensures.1 in
    let within : c.loop-index.index < length c.args.states.now = omega arith in
    let turn = states_failure-turn node_of _ _ _ within c.index-states-index.is _ c.loop-index.invariant.seen
    (length c.args.states.now) _ refl in
    rw (p.1, p.2) (grind (arith, turn, c.in_err-check_state.ensures.err))

pub returns-clause-ok : goal.returns-clause-ok
returns-clause-ok g c =
    let all = map node_of c.args.states.now in
    let same = length-map c.args.states.now node_of in
    let none : drop c.loop-index.index all ≡ [] = nil_from_length (drop c.loop-index.index all)
    (omega (arith, length-drop c.loop-index.index all, same, c.loop-index-test.false)) in
    c.loop-index.invariant.same
    ∙ ap (states_failure (length c.args.states.now) (take c.loop-index.index all) c.loop-index.index) none
