use Rattle.determinize_below.proofs.Common.{◌≡◌, arith, AreTestedAlike}
use Rattle.determinize_below.proofs.nfas.Partitions.{least_beside, least_more, least_partition, tested_alike}
use Rattle.determinize_below.proofs.nfa.byte_classes.Partition.new.Goals.{then-are_tested_alike, else-are_tested_alike}
use Rattle.determinize_below.proofs.nfa.byte_classes.Partition.new.Goals as goal

pub loop-byte-preserved : goal.loop-byte-preserved
loop-byte-preserved g c = elim c.if-are_tested_alike.branch [
  | then-are_tested_alike w ↦ rw w.least-is (least_beside _ _ _ c.loop-byte.invariant (tested_alike _)
      c.loop-byte.auto.byte c.loop-byte-test.true (c.are_tested_alike.ensures.0 w.if-are_tested_alike.true))
  | else-are_tested_alike w ↦ rw w.least-is (least_more _ _ _ c.loop-byte.invariant _ c.loop-byte-test.true
      w.least_tested_alike.ensures.alike w.least_tested_alike.ensures.first)
]

pub invariant_of-result : goal.invariant_of-result
invariant_of-result g c =
    let all : c.loop-byte.byte ≡ 256 = omega (arith, c.loop-byte-test.false, c.loop-byte.auto.byte-end) in
    record {
      classes = least_partition (AreTestedAlike c.args.nfa.now) (tested_alike c.args.nfa.now) _
          (rw all at c.loop-byte.invariant);
      bound = c.greatest_bytes-greatest.ensures;
    }
