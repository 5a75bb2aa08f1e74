use Rattle.determinize_dense.proofs.Common.{arith}
use Rattle.determinize_dense.proofs.Searching.{come-on}
use Rattle.determinize_dense.proofs.dfa.Dfa.read_block.Goals as goal

pub loop-preserved : goal.loop-preserved
loop-preserved g c = record {
  come = come-on c.loop.invariant.come (c.enter-at.ensures.come c.args.text.now c.over_byte.ensures.read);
  read = omega (arith, c.enter-at.ensures.more, c.loop.invariant.read);
}

pub loop-at-2-preserved : goal.loop-at-2-preserved
loop-at-2-preserved g c =
    let more = c.enter-at-in-loop-at-2.ensures.more in record {
      come = come-on c.loop-at-2.invariant.come
          (c.enter-at-in-loop-at-2.ensures.come c.args.text.now c.over_byte-in-loop-at-2.ensures.read);
      more = omega (arith, more, c.loop-at-2.invariant.more);
      within = omega (arith, more, c.loop-at-2-test.true);
    }

pub returns-then-is_over-2-clause-reads : goal.returns-then-is_over-2-clause-reads
returns-then-is_over-2-clause-reads g c =
    let more = c.enter-at-in-loop-at-2.ensures.more in record {
      come = come-on c.loop-at-2.invariant.come
          (c.enter-at-in-loop-at-2.ensures.come c.args.text.now c.over_byte-in-loop-at-2.ensures.read);
      more = omega (arith, more, c.loop-at-2.invariant.more);
      within = omega (arith, more, c.loop-at-2-test.true);
    }
