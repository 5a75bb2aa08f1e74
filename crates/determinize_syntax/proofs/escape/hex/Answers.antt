use Rattle.determinize_syntax.proofs.Common.{◌∙◌, ◌∷◌, ◌≡◌, ap, clash, refl, rest, slice_get}
use Rattle.determinize_syntax.proofs.Hexes.{two_next, two_read}
use Rattle.determinize_syntax.proofs.Numbers.{digit_front}
use Rattle.determinize_syntax.proofs.escape.hex.Goals as goal

pub returns-clause-read : goal.returns-clause-read
returns-clause-read c = two_read c.in_ok-high.high c.in_ok-low.low
    (rw (c.take.ensures.left c.if-take.false) at c.in_ok-high.ensures.read) c.in_ok-low.ensures.read

pub returns-then-take-clause-whole : goal.returns-then-take-clause-whole
returns-then-take-clause-whole c e u h = c.braces.ensures.whole e u (rw (c.take.ensures.read c.if-take.true) at h)

pub returns-in_err-high-clause-whole : goal.returns-in_err-high-clause-whole
returns-in_err-high-clause-whole c e u h =
    let x = two_next u e _ h (c.take.ensures.other c.if-take.false) in
    clash x.3 (c.in_err-high.ensures.other x.0
    (ap (λ y. slice_get (rest y) 0) (c.take.ensures.left c.if-take.false) ∙ ap (λ l. slice_get l 0) x.2))

pub returns-in_err-low-clause-whole : goal.returns-in_err-low-clause-whole
returns-in_err-low-clause-whole c e u h =
    let x = two_next u e _ h (c.take.ensures.other c.if-take.false) in
    let same = ap rest (c.take.ensures.left c.if-take.false) in let text = x.2 in
    let high = digit_front 16 c.in_ok-high.high c.in_ok-high.ensures.read in
    let next : rest c.hex_digit.new.cursor ≡ x.1 ∷ u = (cc) in
    clash x.4 (c.in_err-low.ensures.other x.1 (ap (λ l. slice_get l 0) next))

pub returns-clause-whole : goal.returns-clause-whole
returns-clause-whole c e u h =
    let x = two_next u e _ h (c.take.ensures.other c.if-take.false) in
    let same = ap rest (c.take.ensures.left c.if-take.false) in let text = x.2 in
    let high = c.in_ok-high.ensures.read in let low = c.in_ok-low.ensures.read in
    let a = digit_front 16 c.in_ok-high.high high in let b = digit_front 16 c.in_ok-low.low low in
    let first : high.2.0 ≡ x.0 = (cc) in let second : low.2.0 ≡ x.1 = (cc) in
    (rw (x.5, high.2.3, low.2.3, first, second) refl, (cc))
