use Rattle.determinize_syntax.proofs.Common.{◌∙◌, ◌∷◌, IsEscape, Part, ap, rest, rules, slice_get, subst, sym}
use Rattle.determinize_syntax.specs.declared.escape.Escape.TheVariants.{Wide}
use Rattle.determinize_syntax.proofs.Hexes.{braced_read, braces_next, numbered_byte, numbered_wide, wide_read}
use Rattle.determinize_syntax.proofs.Numbers.{past_brace, some_digit}
use Rattle.determinize_syntax.proofs.escape.braces.Goals as goal

pub returns-then-value-lt128-clause-read : goal.returns-then-value-lt128-clause-read
returns-then-value-lt128-clause-read c =
    braced_read c.in_ok-value.value (rw (c.take.ensures.left c.if-take.false) at c.in_ok-value.ensures.read)
    (c.take-2.ensures.read c.if-not-take.false) c.if-value-lt128.true

pub returns-in-Some-clause-read : goal.returns-in-Some-clause-read
returns-in-Some-clause-read c =
    subst (λ n. Part (rest c.args.cursor.now) (rest c.take-2.new.self)
    (λ t. IsEscape (Wide n) (0x5C ∷ 0x78 ∷ 0x7B ∷ t))) (sym c.in-Some.ensures.value.1)
    (wide_read c.in_ok-value.value (rw (c.take.ensures.left c.if-take.false) at c.in_ok-value.ensures.read)
    (c.take-2.ensures.read c.if-not-take.false) c.if-value-lt128.false c.in-Some.ensures.value.0
    c.in-Some.ensures.cases)

pub returns-then-take-clause-whole : goal.returns-then-take-clause-whole
returns-then-take-clause-whole c e u h =
    let x = braces_next u e _ h in
    some_digit 16 x.0 x.1 (past_brace _ (ap (λ l. slice_get l 0) (c.take.ensures.read c.if-take.true)))

pub returns-in_err-value-clause-whole : goal.returns-in_err-value-clause-whole
returns-in_err-value-clause-whole c e u h =
    let x = braces_next u e _ h in
    search (rules, c.in_err-value.ensures.whole x.0 u (rw (c.take.ensures.left c.if-take.false) x.1))

pub returns-then-not-take-clause-whole : goal.returns-then-not-take-clause-whole
returns-then-not-take-clause-whole c e u h =
    let x = braces_next u e _ h in
    let y = c.in_ok-value.ensures.whole x.0 u (rw (c.take.ensures.left c.if-take.false) x.1) in
    absurd (c.take-2.ensures.other c.if-not-take.true (ap (λ l. slice_get l 0) y.1))

pub returns-then-value-lt128-clause-whole : goal.returns-then-value-lt128-clause-whole
returns-then-value-lt128-clause-whole c e u h =
    let x = braces_next u e _ h in
    let y = c.in_ok-value.ensures.whole x.0 u (rw (c.take.ensures.left c.if-take.false) x.1) in
    let r = sym (c.take-2.ensures.read c.if-not-take.false) ∙ y.1 in
    (numbered_byte x.0 c.in_ok-value.value e x.3 (y.0 x.2) c.if-value-lt128.true, (cc))

pub returns-in-Some-clause-whole : goal.returns-in-Some-clause-whole
returns-in-Some-clause-whole c e u h =
    let x = braces_next u e _ h in
    let y = c.in_ok-value.ensures.whole x.0 u (rw (c.take.ensures.left c.if-take.false) x.1) in
    let r = sym (c.take-2.ensures.read c.if-not-take.false) ∙ y.1 in (
      ap (λ n. Wide n) c.in-Some.ensures.value.1
          ∙ (numbered_wide x.0 c.in_ok-value.value e x.3 (y.0 x.2) c.if-value-lt128.false).0,
      (cc),
    )

pub returns-in-None-clause-whole : goal.returns-in-None-clause-whole
returns-in-None-clause-whole c e u h =
    let x = braces_next u e _ h in
    let y = c.in_ok-value.ensures.whole x.0 u (rw (c.take.ensures.left c.if-take.false) x.1) in
    absurd (c.in-None.ensures.value (numbered_wide x.0 c.in_ok-value.value e x.3 (y.0 x.2) c.if-value-lt128.false).1)
