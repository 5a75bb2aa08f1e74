use Rattle.determinize_lazy.proofs.{arith, goes_none, goes_twice, refl, ◌∙◌}
use Rattle.determinize_lazy.proofs.lazy.LazyDfa.follow_and_learn.Goals as goal

pub loop-at-init : goal.loop-at-init
loop-at-init g c = record {
  goes = goes_none c.args.self.now c.args.earliest c.args.text.now c.args.from c.requires.position c.requires.read;
  same = refl;
  some = omega arith;
}

pub returns-then-at-until-clause-goes : goal.returns-then-at-until-clause-goes
returns-then-at-until-clause-goes g c = goes_twice c.loop-at.invariant.goes c.follow_and_record-at.ensures.goes

pub loop-at-smaller : goal.loop-at-smaller
loop-at-smaller g c = omega (
  arith,
  c.if-at-until.false,
  c.min-until.ensures,
  c.saturating_add.ensures,
  c.loop-at-test.true,
  c.len.ensures.value,
  c.len-in-loop-at.ensures.value,
  c.len-in-loop-at.ensures.limit,
  c.follow_and_record-at.ensures.goes.within,
  c.loop-at.invariant.some,
)

pub loop-at-preserved : goal.loop-at-preserved
loop-at-preserved g c = rw c.learn.ensures record {
  goes = goes_twice c.loop-at.invariant.goes c.follow_and_record-at.ensures.goes;
  same = c.follow_and_record-at.ensures.same ∙ c.loop-at.invariant.same;
  some = omega (arith, c.saturating_mul-patience.ensures, c.loop-at.invariant.some);
}

pub returns-clause-goes : goal.returns-clause-goes
returns-clause-goes g c = c.loop-at.invariant.goes
