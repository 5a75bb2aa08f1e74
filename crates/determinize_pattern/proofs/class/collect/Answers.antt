use Rattle.std.proofs.Common.{◌≡◌, ◌∙◌, arith, refl, sym}
use Rattle.determinize_pattern.proofs.classes.Scanning.{all_apart, all_scanned, chosen_is, in_some, scanned_closed, scanned_more}
use Rattle.determinize_pattern.specs.Classes.{pairs}
use Rattle.determinize_pattern.proofs.class.collect.Goals.{then-is_in_some-negated+in_ok-push_range, else-is_in_some-negated}
use Rattle.determinize_pattern.proofs.class.collect.Goals as goal

pub loop-byte-preserved : goal.loop-byte-preserved
loop-byte-preserved c =
    let ranges = pairs c.args.ranges.now in
    let byte = c.loop-byte.byte in
    let found = sym (in_some c.args.ranges.now byte) ∙ sym c.is_in_some.ensures in
    let chosen = chosen_is ranges c.args.negated byte in
    elim c.if-is_in_some-negated.branch [
      | then-is_in_some-negated+in_ok-push_range w ↦
          rw (w.found-is, w.start-is, w.in_ok-push_range.ensures)
          (scanned_closed _ _ _ byte c.loop-byte.invariant
          (chosen ∙ rw (found, w.if-is_in_some-negated.true) refl))
      | else-is_in_some-negated w ↦
          rw (w.found-is, w.start-is)
          (scanned_more _ _ _ byte c.loop-byte.invariant
          (chosen ∙ rw (found, w.if-is_in_some-negated.false) refl))
    ]

pub invariant_of-result : goal.invariant_of-result
invariant_of-result c =
    let end : c.loop-byte.byte ≡ 256 = omega arith in
    rw c.in_ok-push_range-2.ensures (all_apart _ _ _ 256 (rw end at c.loop-byte.invariant))

pub returns : goal.returns
returns c =
    let end : c.loop-byte.byte ≡ 256 = omega arith in
    rw c.in_ok-push_range-2.ensures (all_scanned _ _ _ 256 (rw end at c.loop-byte.invariant))
