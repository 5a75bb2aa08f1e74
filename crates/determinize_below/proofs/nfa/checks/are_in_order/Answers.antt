use Rattle.determinize_below.proofs.Common.{arith, sym}
use Rattle.std.proofs.Common.{inl, inr}
use Rattle.determinize_below.proofs.nfas.SortedRanges.{in_order, more_in_order, out_of_order}
use Rattle.determinize_below.proofs.nfa.checks.are_in_order.Goals.{then-from-low-via-then-from-low}
use Rattle.determinize_below.proofs.nfa.checks.are_in_order.Goals.{then-from-low-via-else-from-low+then-t}
use Rattle.determinize_below.proofs.nfa.checks.are_in_order.Goals as goal

pub loop-t-preserved : goal.loop-t-preserved
loop-t-preserved c = record {
  rest = rw c.from-low.ensures (more_in_order _ _ _ c.loop-t.invariant.rest c.t-item.result c.loop-t-test.true
      c.t-item.is (omega (arith, c.if-from-low.false, c.from.ensures)) c.if-t.false);
  low = omega arith;
}

pub returns-then-from-low : goal.returns-then-from-low
returns-then-from-low c =
    let scan = out_of_order _ _ _ c.loop-t.invariant.rest c.t-item.result c.loop-t-test.true c.t-item.is in
    sym (elim c.then-from-low.branch [
      | then-from-low-via-then-from-low w ↦ scan (inl (omega (arith, w.if-from-low.true, c.from.ensures)))
      | then-from-low-via-else-from-low+then-t w ↦ scan (inr w.if-t.true)
    ])

pub returns : goal.returns
returns c = sym (in_order _ _ _ c.loop-t.invariant.rest c.loop-t-test.false)
