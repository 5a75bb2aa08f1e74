use Rattle.determinize_dense.proofs.Common.{arith}
use Rattle.determinize_dense.proofs.Searching.{come-above, come-start}
use Rattle.determinize_dense.proofs.dfa.Dfa.read_above.Goals as goal

pub loop-at-init : goal.loop-at-init
loop-at-init g c = record {
  come = come-start c.requires.row c.requires.matched;
  more = omega arith;
  within = c.requires.read;
}

pub loop-preserved : goal.loop-preserved
loop-preserved g c = record {
  come = come-above c.loop.invariant.come c.over_byte-row.ensures.read c.requires.stop
      (omega (arith, c.if-row-stop.false));
  read = omega (arith, c.loop.invariant.read);
}

pub loop-at-2-preserved : goal.loop-at-2-preserved
loop-at-2-preserved g c = record {
  come = come-above c.loop-at-2.invariant.come c.over_byte-row-in-loop-at-2.ensures.read c.requires.stop
      (omega (arith, c.if-row-stop-2.false));
  more = omega (arith, c.loop-at-2.invariant.more);
  within = omega (arith, c.loop-at-2-test.true);
}
