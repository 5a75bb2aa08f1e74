use Rattle.determinize_syntax.proofs.Common.{◌<◌, ◌≤◌, arith, by_cases, sym}
use Rattle.determinize_syntax.proofs.Widths.{width_of}
use Rattle.determinize_syntax.proofs.cursor.width.Goals as goal

pub returns-in-0-to-127 : goal.returns-in-0-to-127
returns-in-0-to-127 c d t large e =
    by_cases (width_of d c.args.byte t large e)
    (λ y. let low : 192 ≤ c.args.byte = y.0 in absurd (omega (arith, low, c.in-0-to-127)))
    (λ x. by_cases x (λ y. let low : 224 ≤ c.args.byte = y.0 in absurd (omega (arith, low, c.in-0-to-127)))
    (λ y. let low : 240 ≤ c.args.byte = y.0 in absurd (omega (arith, low, c.in-0-to-127))))

pub returns-in-128-to-223 : goal.returns-in-128-to-223
returns-in-128-to-223 c d t large e =
    by_cases (width_of d c.args.byte t large e) (λ y. sym y.2)
    (λ x. by_cases x (λ y. let low : 224 ≤ c.args.byte = y.0 in absurd (omega (arith, low, c.in-128-to-223)))
    (λ y. let low : 240 ≤ c.args.byte = y.0 in absurd (omega (arith, low, c.in-128-to-223))))

pub returns-in-224-to-239 : goal.returns-in-224-to-239
returns-in-224-to-239 c d t large e =
    by_cases (width_of d c.args.byte t large e)
    (λ y. let high : c.args.byte < 224 = y.1 in absurd (omega (arith, high, c.in-224-to-239)))
    (λ x. by_cases x (λ y. sym y.2) (λ y. let low : 240 ≤ c.args.byte = y.0 in
    absurd (omega (arith, low, c.in-224-to-239))))

pub returns-in_default : goal.returns-in_default
returns-in_default c d t large e =
    by_cases (width_of d c.args.byte t large e)
    (λ y. let high : c.args.byte < 224 = y.1 in absurd (omega (arith, high, c.in_default)))
    (λ x. by_cases x (λ y. let high : c.args.byte < 240 = y.1 in absurd (omega (arith, high, c.in_default)))
    (λ y. sym y.1))
