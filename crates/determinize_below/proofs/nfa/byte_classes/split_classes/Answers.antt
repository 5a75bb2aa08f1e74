use Rattle.determinize_below.proofs.Common.{not, true, false, Bool, ◌≢◌, get_or, ◌≡◌, ◌∙◌, arith}
use mathlib.Core.Bool.{beq}
use Rattle.determinize_below.proofs.nfas.TestSplits.{split_begin, split_kept, split_moved, split_all}
use Rattle.determinize_below.proofs.nfa.byte_classes.split_classes.Goals.{then-inside-byte, else-inside-byte}
use Rattle.determinize_below.proofs.nfa.byte_classes.split_classes.Goals as goal

pub loop-byte-init : goal.loop-byte-init
loop-byte-init c = split_begin _ _ c.requires

differs : (x y : Bool) → not (beq x y) ≡ true → x ≢ y
differs x y h = grind arith

same : (x y : Bool) → not (beq x y) ≡ false → x ≡ y
same x y h = grind arith

first : (c : goal.Joined-inside-byte) → c.from-first.result ≡ get_or c.args.least.now c.loop-byte.byte 0
first c = c.from-first.ensures ∙ c.loop-byte.invariant.rest c.loop-byte.byte (omega arith)

pub loop-byte-preserved : goal.loop-byte-preserved
loop-byte-preserved c =
    elim c.if-inside-byte.branch [
      | then-inside-byte w ↦ rw (w.least-is, w.others-is, first c)
          (split_moved _ _ c.requires _ c.loop-byte-test.true _ _ c.loop-byte.invariant w.unwrap_or-other.result
          (rw (first c) at w.unwrap_or-other.ensures) (rw (first c) at (differs _ _ w.if-inside-byte.true)))
      | else-inside-byte w ↦ rw (w.least-is, w.others-is) (split_kept _ _ c.requires _ c.loop-byte-test.true _ _
          c.loop-byte.invariant (rw (first c) at (same _ _ w.if-inside-byte.false)))
    ]

pub returns : goal.returns
returns c = split_all _ _ _ _ _ (omega (arith, c.loop-byte-test.false, c.loop-byte.auto.byte-end)) c.loop-byte.invariant
