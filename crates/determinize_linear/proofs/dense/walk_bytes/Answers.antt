use Rattle.std.proofs.Common.{◌≡◌, ◌≤◌, Some, ap, arith, length}
use Rattle.determinize_engine.proofs.Texts.{unit-here}
use Rattle.determinize_linear.specs.Private.Walks.{WalkValue}
use Rattle.determinize_linear.proofs.walks.Walked.{has_bit_here, none_follows, walked_listing, walked_mark, walked_more}
use Rattle.determinize_linear.proofs.walks.Walked.{walked_start}
use Rattle.determinize_linear.proofs.dense.walk_bytes.Goals as goal

pub loop-walk-init : goal.loop-walk-init
loop-walk-init g c =
    let at : c.walk.inside.at ≡ c.args.walk.now.at = ap (λ (w : WalkValue). w.at) c.walk.view_is in
    let here : c.step.inside.at ≡ c.args.walk.now.at = ap (λ (w : WalkValue). w.at) c.step.view_is in
    let within : c.args.walk.now.at ≤ length c.args.text.now.bytes = c.requires.within in
    record {
      walked = walked_more c.args.text.now c.args.walk.now c.args.marks.now c.requires.walkable
          (g.C.Counter.total c.args.counter.now) c.args.marks.now c.args.walk.now 0
          (g.C.Counter.total c.args.counter.now)
          (walked_start c.args.text.now c.args.walk.now c.args.marks.now c.requires.walkable
          (g.C.Counter.total c.args.counter.now) c.requires.below c.requires.start) (Some c.byte.result)
          c.step-2.new.self
          c.step-2.result c.step-2.ensures (g.C.Counter.total c.count.new.self)
          (unit-here c.args.text.now c.args.walk.now.at c.byte.result (rw here at c.byte.ensures))
          c.len.ensures.units within
          c.count.ensures.most;
      high = omega (arith, c.step-2.ensures.at, c.len.ensures.value, c.if-walk-len.false, at, within);
      more = omega (arith, c.step-2.ensures.at);
      counted = λ k. omega (arith, c.step-2.ensures.at, c.count.ensures.counted k);
    }

pub may_follow-requires : goal.may_follow-requires
may_follow-requires g c = λ l. has_bit_here c.args.text.now c.args.walk.now c.args.marks.now c.requires.walkable
    (g.C.Counter.total c.args.counter.now) c.loop-walk.marks c.loop-walk.walk 1 _
    c.loop-walk.invariant.walked (omega arith)

pub set-requires : goal.set-requires
set-requires g c =
    let bit = has_bit_here c.args.text.now c.args.walk.now c.args.marks.now c.requires.walkable
    (g.C.Counter.total c.args.counter.now) c.loop-walk.marks c.loop-walk.walk 1 _
    c.loop-walk.invariant.walked c.loop-walk.invariant.high in
    rw c.offset-offset.ensures (rw (← c.walk-in-loop-walk.view_is) at bit)

pub loop-walk-preserved-then-not-step : goal.loop-walk-preserved-then-not-step
loop-walk-preserved-then-not-step g c =
    let here : c.walk-in-loop-walk.inside.at ≡ c.loop-walk.walk.at
    = ap (λ (w : WalkValue). w.at) c.walk-in-loop-walk.view_is in
    let more = c.may_follow.ensures.more c.loop-walk-test.true in
    record {
      walked = walked_mark c.args.text.now c.args.walk.now c.args.marks.now c.requires.walkable
          (g.C.Counter.total c.args.counter.now) c.loop-walk.marks c.loop-walk.walk 1 _
          c.loop-walk.invariant.walked (Some c.byte-in-loop-walk.result) c.step-in-loop-walk.new.self
          c.step-in-loop-walk.result c.step-in-loop-walk.ensures (g.C.Counter.total c.count-in-loop-walk.new.self)
          (unit-here c.args.text.now c.loop-walk.walk.at c.byte-in-loop-walk.result
          (rw here at c.byte-in-loop-walk.ensures))
          c.len.ensures.units c.loop-walk.invariant.high c.count-in-loop-walk.ensures.most c.if-not-step.true
          c.set.new.self
          (rw (← c.walk-in-loop-walk.view_is) (rw c.offset-offset.ensures at c.set.ensures)) more.1;
      high = omega (arith, c.step-in-loop-walk.ensures.at, more.0);
      more = omega (arith, c.step-in-loop-walk.ensures.at, c.loop-walk.invariant.more);
      counted = λ k. omega (
        arith,
        c.step-in-loop-walk.ensures.at,
        c.count-in-loop-walk.ensures.counted k,
        c.loop-walk.invariant.counted k,
      );
    }

pub loop-walk-preserved : goal.loop-walk-preserved
loop-walk-preserved g c =
    let here : c.walk-in-loop-walk.inside.at ≡ c.loop-walk.walk.at
    = ap (λ (w : WalkValue). w.at) c.walk-in-loop-walk.view_is in
    let more = c.may_follow.ensures.more c.loop-walk-test.true in
    record {
      walked = walked_listing c.args.text.now c.args.walk.now c.args.marks.now c.requires.walkable
          (g.C.Counter.total c.args.counter.now) c.loop-walk.marks c.loop-walk.walk 1 _
          c.loop-walk.invariant.walked (Some c.byte-in-loop-walk.result) c.step-in-loop-walk.new.self
          c.step-in-loop-walk.result c.step-in-loop-walk.ensures (g.C.Counter.total c.count-in-loop-walk.new.self)
          (unit-here c.args.text.now c.loop-walk.walk.at c.byte-in-loop-walk.result
          (rw here at c.byte-in-loop-walk.ensures))
          c.len.ensures.units c.loop-walk.invariant.high c.count-in-loop-walk.ensures.most c.if-not-step.false;
      high = omega (arith, c.step-in-loop-walk.ensures.at, more.0);
      more = omega (arith, c.step-in-loop-walk.ensures.at, c.loop-walk.invariant.more);
      counted = λ k. omega (
        arith,
        c.step-in-loop-walk.ensures.at,
        c.count-in-loop-walk.ensures.counted k,
        c.loop-walk.invariant.counted k,
      );
    }

pub returns-clause-walked : goal.returns-clause-walked
returns-clause-walked g c = c.loop-walk.invariant.walked

pub returns-clause-ends : goal.returns-clause-ends
returns-clause-ends g c = none_follows c.args.text.now c.args.walk.now c.args.marks.now c.requires.walkable
    (g.C.Counter.total c.args.counter.now) c.loop-walk.marks c.loop-walk.walk 1 _
    c.loop-walk.invariant.walked (c.may_follow.ensures.less c.loop-walk-test.false)
