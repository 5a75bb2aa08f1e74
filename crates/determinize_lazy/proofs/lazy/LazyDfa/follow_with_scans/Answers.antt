use Rattle.determinize_lazy.proofs.{arith, goes_twice}
use Rattle.determinize_lazy.proofs.lazy.LazyDfa.follow_with_scans.Goals as goal

pub returns-then-at-read : goal.returns-then-at-read
returns-then-at-read g c = goes_twice c.loop-at.invariant c.follow_once-at.ensures

pub loop-at-smaller : goal.loop-at-smaller
loop-at-smaller g c =
    omega (arith, c.follow_once-at.ensures.forward, c.follow_once-at.ensures.within, c.if-at-read.false)

pub loop-at-preserved : goal.loop-at-preserved
loop-at-preserved g c = goes_twice c.loop-at.invariant c.follow_once-at.ensures
