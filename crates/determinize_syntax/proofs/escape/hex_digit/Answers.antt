use Rattle.determinize_syntax.proofs.Common.{◌<◌, ◌∙◌, ◌≡◌, IsDigit, ap, arith, digit_value, is_digit, refl, sym, took}
use Rattle.determinize_syntax.proofs.Common.{true}
use Rattle.determinize_syntax.proofs.escape.hex_digit.Goals as goal

pub returns-clause-read : goal.returns-clause-read
returns-clause-read c =
    let d = c.in-Some.next in
    let small : digit_value d < 16 = rw c.from.ensures at c.in-Some-to_digit.ensures.value.0 in
    let is : is_digit d 16 ≡ true = grind (arith, small) in
    took {c = d} (IsDigit 16 c.in-Some-to_digit.digit) (c.pass.ensures d (sym c.peek.ensures ∙ c.in-Some.is))
    (d, refl, is, c.in-Some-to_digit.ensures.value.1 ∙ ap digit_value c.from.ensures)
