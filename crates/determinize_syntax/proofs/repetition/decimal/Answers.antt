use Rattle.determinize_syntax.proofs.Common.{◌*◌, ◌+◌, ◌<◌, ◌^◌, ◌∙◌, ◌≤◌, ap, arith, rest}
use Rattle.determinize_syntax.proofs.Numbers.{begun, ended, grown, number_begun, number_grown, over, some_digit}
use Rattle.determinize_syntax.proofs.repetition.decimal.Goals as goal

pub loop-next-init : goal.loop-next-init
loop-next-init c = (
  number_begun 10 c.in-Some.value c.in-Some.ensures.read,
  λ n u h p. begun 10 0xFFFF_FFFF n c.in-Some.value c.in-Some.ensures.read (h.0, h.1, h.2.0),
)

pub loop-next-preserved : goal.loop-next-preserved
loop-next-preserved c =
    let more = c.in-Some-checked_add.ensures.1 ∙ ap (λ x. x + c.in-Some-digit.next) c.in-Some-checked_mul.ensures.1 in (
      number_grown c.loop-next.value c.in-Some-digit.next c.in-Some-checked_add.grown c.loop-next.invariant.0
          c.in-Some-digit.ensures.read more,
      λ n u h p. grown 10 0xFFFF_FFFF c.loop-next.value n c.in-Some-digit.next c.in-Some-checked_add.grown
          (λ v. omega arith) (c.loop-next.invariant.1 n u h p) p c.in-Some-digit.ensures.read (λ small. more),
    )

pub returns-in-Some-peek-clause-whole : goal.returns-in-Some-peek-clause-whole
returns-in-Some-peek-clause-whole c n u h p =
    some_digit 10 n (h.0, h.1, h.2.0) (rw c.in_default.is at c.digit.ensures.past)

pub returns-in_default-checked_mul-clause-whole : goal.returns-in_default-checked_mul-clause-whole
returns-in_default-checked_mul-clause-whole c n u h p =
    let small : n < 2 ^ 32 = h.2.1 in
    let le : c.loop-next.value * 10 + c.in-Some-digit.next ≤ n =
    over 10 0xFFFF_FFFF c.loop-next.value n c.in-Some-digit.next (λ v. omega arith) (omega (arith, small))
    (c.loop-next.invariant.1 n u h p) p c.in-Some-digit.ensures.read in
    absurd (c.in_default-checked_mul.ensures (omega (arith, le, small)))

pub returns-in_default-checked_add-clause-whole : goal.returns-in_default-checked_add-clause-whole
returns-in_default-checked_add-clause-whole c n u h p =
    let small : n < 2 ^ 32 = h.2.1 in
    let le : c.loop-next.value * 10 + c.in-Some-digit.next ≤ n =
    over 10 0xFFFF_FFFF c.loop-next.value n c.in-Some-digit.next (λ v. omega arith) (omega (arith, small))
    (c.loop-next.invariant.1 n u h p) p c.in-Some-digit.ensures.read in
    absurd (c.in_default-checked_add.ensures (omega (arith, le, small, c.in-Some-checked_mul.ensures.1)))

pub returns-clause-whole : goal.returns-clause-whole
returns-clause-whole c n u h p =
    let small : n < 2 ^ 32 = h.2.1 in
    let past = rw c.in_default-digit.is at c.digit-in-loop-next.ensures.past in
    let same = rw c.in_default-digit.is at c.digit-in-loop-next.ensures.none in
    let x = ended 10 0xFFFF_FFFF c.loop-next.value n (c.loop-next.invariant.1 n u h p) past in
    (x.0 (omega (arith, small)), ap rest same ∙ x.1)
