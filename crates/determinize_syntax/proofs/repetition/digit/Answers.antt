use Rattle.determinize_syntax.proofs.Common.{◌∙◌, ◌≡◌, IsDigit, arith, is_digit, refl, sym, took, true}
use Rattle.determinize_syntax.proofs.Numbers.{value_of}
use Rattle.determinize_syntax.proofs.repetition.digit.Goals as goal

pub returns-clause-read : goal.returns-clause-read
returns-clause-read c =
    let is : is_digit c.in_ok-next.next 10 ≡ true = grind (arith, c.if-not-is_ascii_digit.ensures.value) in
    took (IsDigit 10 c.from.result) (c.pass.ensures c.in_ok-next.next (sym c.peek.ensures ∙ c.in_ok-next.was))
    (c.in_ok-next.next, refl, is, c.from.ensures ∙ sym (value_of c.in_ok-next.next is))
