use Rattle.determinize_below.proofs.Common.{arith, nat_tests}
use Rattle.determinize_below.proofs.nfas.SortedRanges.{target_here, target_none}
use Rattle.determinize_below.proofs.nfa.transitions.target_in.Goals as goal

pub returns : goal.returns
returns c = target_none c.args.byte c.args.transitions.now c.requires c.loop-t.t-index c.loop-t.invariant
    (omega (arith, c.loop-t-test.false))

pub returns-then-byte-t : goal.returns-then-byte-t
returns-then-byte-t c = grind (
  arith,
  nat_tests,
  target_here c.args.byte c.args.transitions.now c.requires c.loop-t.t-index c.loop-t.invariant c.t-item.result
      c.loop-t-test.true c.t-item.is,
)
