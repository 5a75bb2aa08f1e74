use Rattle.determinize_below.proofs.Common.{arith, get_or_default, None, nat_tests}
use Rattle.determinize_below.proofs.nfas.TargetSplits.{splitting_begin, splitting_held, splitting_more, splitting_all}
use Rattle.determinize_below.proofs.nfa.byte_classes.Partition.split_targets.Goals.{then-is_mixed, else-is_mixed}
use Rattle.determinize_below.proofs.nfa.byte_classes.Partition.split_targets.Goals as goal

pub loop-byte-init : goal.loop-byte-init
loop-byte-init c = splitting_begin _ _ _ c.args.self.now.classes _ (omega arith)
    (λ b l. c.requires b (omega arith) (grind (arith, nat_tests)))

pub loop-byte-preserved : goal.loop-byte-preserved
loop-byte-preserved c =
    elim c.if-is_mixed.branch [
      | then-is_mixed w ↦ let at = get_or_default c.args.targets.now c.loop-byte.byte w.index-targets-byte.result None
          (omega arith) in
          rw w.self-is (splitting_more _ _ _ _ _ c.loop-byte.invariant (omega arith) _ _ w.split.ensures
          (rw at at w.bytes_to.ensures) (λ b h l. c.requires b h (grind (arith, nat_tests))))
      | else-is_mixed w ↦ rw w.self-is (splitting_held _ _ _ _ _ c.loop-byte.invariant
          (c.is_mixed.ensures.least w.if-is_mixed.false) (c.is_mixed.ensures.above w.if-is_mixed.false))
    ]

pub returns : goal.returns
returns c = splitting_all _ _ _ _ _ (omega (arith, c.loop-byte-test.false))
    (λ b h l. c.requires b h (grind (arith, nat_tests))) c.loop-byte.invariant
