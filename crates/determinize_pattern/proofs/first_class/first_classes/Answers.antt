use Rattle.std.proofs.Common.{◌∷◌, [], append_assoc, arith}
use Rattle.std.proofs.lemmas.List.{append-nil, drop_all, drop_more}
use Rattle.determinize_pattern.proofs.first_class.first_classes.Goals as goal

pub loop-i-preserved : goal.loop-i-preserved
loop-i-preserved g c later h =
    let i = c.loop-i.i in
    let class = c.in-Some.class in
    let whole = c.loop-i.invariant (class ∷ later)
    (rw (drop_more c.args.subs.now i c.index-subs-i.result c.loop-i-test.true, ← c.index-subs-i.is)
    (c.in-Some-past_class.past, c.in-Some.ensures, c.in-Some-past_class.ensures, h)) in
    rw (c.in_ok-push.ensures.items, append_assoc c.loop-i.classes.items (class ∷ []) later) whole

pub returns : goal.returns
returns g c =
    let all = c.loop-i.invariant [] (rw (drop_all c.loop-i.i c.args.subs.now (omega arith)) tt) in
    rw (append-nil c.loop-i.classes.items) at all
