use Rattle.determinize_dense.proofs.Common.{arith, byte_of, gives_nothing, length, rules, take_all, true, ◌<◌, ◌≡◌}
use Rattle.determinize_dense.proofs.IdleStates.{idle-push}
use Rattle.determinize_dense.proofs.build.none_gives.Goals as goal

pub loop-id-preserved : goal.loop-id-preserved
loop-id-preserved g c =
    let inside : c.loop-id.id-index < length c.args.ids.now = search rules in
    let idle : gives_nothing c.args.nfa.now (byte_of c.args.unit) c.id-item.result ≡ true =
    grind (arith, c.if-gives.false, c.gives.ensures) in
    idle-push (gives_nothing c.args.nfa.now (byte_of c.args.unit)) c.args.ids.now c.loop-id.id-index c.id-item.result
    inside c.loop-id.invariant c.id-item.is idle

pub returns : goal.returns
returns g c = λ _. rw (take_all c.loop-id.id-index c.args.ids.now (search rules)) at c.loop-id.invariant
