use Rattle.determinize_syntax.proofs.Common.{◌∙◌, ap, by_cases, slice_get, some_injective, sym}
use Rattle.determinize_syntax.proofs.Munch.{filled, named_boundary, nil_when}
use Rattle.determinize_syntax.proofs.Rules.{boundary_read}
use Rattle.determinize_syntax.proofs.escape.boundary.Goals as goal

pub returns-clause-read : goal.returns-clause-read
returns-clause-read c = boundary_read c.in-Some.look c.since-name.result.now (c.take.ensures.read c.if-not-take.false)
    c.pass_letters.ensures.read c.since-name.ensures (c.take-2.ensures.read c.if-not-take-2.false)
    c.in-Some.ensures.some

pub returns-then-is_empty-clause-whole : goal.returns-then-is_empty-clause-whole
returns-then-is_empty-clause-whole c l u h past =
    by_cases (named_boundary l h past (c.take.ensures.read c.if-not-take.false) c.pass_letters.ensures.read
    c.pass_letters.ensures.past c.since-name.ensures) (λ y. (some_injective _ l y.2, y.0))
    (λ y. absurd (y.0 (nil_when c.since-name.result.now (sym c.is_empty.ensures ∙ c.if-is_empty.true))))

pub returns-then-not-take-2-clause-whole : goal.returns-then-not-take-2-clause-whole
returns-then-not-take-2-clause-whole c l u h past =
    by_cases (named_boundary l h past (c.take.ensures.read c.if-not-take.false) c.pass_letters.ensures.read
    c.pass_letters.ensures.past c.since-name.ensures)
    (λ y. absurd (filled c.since-name.result.now (sym c.is_empty.ensures ∙ c.if-is_empty.false) y.1))
    (λ y. absurd (c.take-2.ensures.other c.if-not-take-2.true (ap (λ w. slice_get w 0) y.1)))

pub returns-in_default-clause-whole : goal.returns-in_default-clause-whole
returns-in_default-clause-whole c l u h past =
    by_cases (named_boundary l h past (c.take.ensures.read c.if-not-take.false) c.pass_letters.ensures.read
    c.pass_letters.ensures.past c.since-name.ensures)
    (λ y. absurd (filled c.since-name.result.now (sym c.is_empty.ensures ∙ c.if-is_empty.false) y.1))
    (λ y. absurd (c.in_default.ensures.none l y.2))

pub returns-clause-whole : goal.returns-clause-whole
returns-clause-whole c l u h past =
    by_cases (named_boundary l h past (c.take.ensures.read c.if-not-take.false) c.pass_letters.ensures.read
    c.pass_letters.ensures.past c.since-name.ensures)
    (λ y. absurd (filled c.since-name.result.now (sym c.is_empty.ensures ∙ c.if-is_empty.false) y.1)) (λ y. (
      some_injective c.in-Some.look l (sym c.in-Some.ensures.some ∙ y.2),
      (let r = sym (c.take-2.ensures.read c.if-not-take-2.false) ∙ y.1 in (cc)),
    ))
