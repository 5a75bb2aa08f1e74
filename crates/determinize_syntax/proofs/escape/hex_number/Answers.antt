use Rattle.determinize_syntax.proofs.Common.{◌∷◌, ap, arith, refl, slice_get}
use Rattle.determinize_syntax.proofs.Numbers.{begun, digits_grown, ended, grown, next_digit, number_begun, past_brace}
use Rattle.determinize_syntax.proofs.escape.hex_number.Goals as goal

pub loop-cursor-init : goal.loop-cursor-init
loop-cursor-init c = (
  (let n = number_begun 16 c.in_ok-value.value c.in_ok-value.ensures.read in (n.0, n.1, λ small. n.2)),
  λ n u h. begun 16 0x10_FFFF n c.in_ok-value.value c.in_ok-value.ensures.read h,
)

pub loop-cursor-preserved : goal.loop-cursor-preserved
loop-cursor-preserved c = (
  digits_grown c.loop-cursor.value c.in_ok-digit.digit c.with_digit-value.result c.loop-cursor.invariant.0
      c.in_ok-digit.ensures.read c.with_digit-value.ensures.read,
  λ n u h. grown 16 0x10_FFFF c.loop-cursor.value n c.in_ok-digit.digit c.with_digit-value.result (λ v. omega arith)
      (c.loop-cursor.invariant.1 n u h) (past_brace (0x7D ∷ u) refl) c.in_ok-digit.ensures.read
      c.with_digit-value.ensures.small,
)

pub returns-in_err-digit-clause-whole : goal.returns-in_err-digit-clause-whole
returns-in_err-digit-clause-whole c n u h =
    next_digit 16 0x10_FFFF c.loop-cursor.value n (c.loop-cursor.invariant.1 n u h) c.in_err-digit.ensures.other
    (λ e. c.is_at.ensures.other c.if-is_at.false (ap (λ l. slice_get l 0) e))

pub returns-clause-whole : goal.returns-clause-whole
returns-clause-whole c n u h =
    ended 16 0x10_FFFF c.loop-cursor.value n (c.loop-cursor.invariant.1 n u h)
    (past_brace _ (c.is_at.ensures.here c.if-is_at.true))
