use Rattle.determinize_syntax.proofs.Common.{◌∙◌, ◌∷◌, IsEscape, Some, ap, at_end, front_of, ok_then, prefixed, refl}
use Rattle.determinize_syntax.proofs.Common.{renamed, rest, rules, slice_get, sym, took}
use Rattle.determinize_syntax.proofs.Escapes.{boundary_next, no_escape, number_next, one_escape, one_next, other_escape}
use Rattle.determinize_syntax.proofs.escape.read_escape.Goals as goal

pub returns-in-Some-one_byte-clause-read : goal.returns-in-Some-one_byte-clause-read
returns-in-Some-one_byte-clause-read c =
    took (λ t. IsEscape c.in-Some-one_byte.escape (0x5C ∷ t))
    (c.pass.ensures c.in-Some.next (sym c.peek.ensures ∙ c.in-Some.is))
    (one_escape c.in-Some.next c.in-Some-one_byte.escape (sym c.one_byte.ensures ∙ c.in-Some-one_byte.is))

pub returns-then-take-clause-read : goal.returns-then-take-clause-read
returns-then-take-clause-read c =
    ok_then _ _ c.hex.result c.hex.ensures.read (λ e h. prefixed _ (c.take.ensures.read c.if-take.true) h)

pub returns-clause-read : goal.returns-clause-read
returns-clause-read c = prefixed _
    (ap rest (sym (c.take.ensures.left c.if-take.false)) ∙ c.take-2.ensures.read c.if-not-take.false)
    (renamed _ _ c.in_ok-boundary.ensures.read (λ t h. (0x62 ∷ t, h, refl)))

pub returns-in_default-clause-whole : goal.returns-in_default-clause-whole
returns-in_default-clause-whole c e u h may =
    no_escape u e (rw (at_end (rest c.args.cursor.now) (sym c.peek.ensures ∙ c.in_default.is)) at h)

pub returns-in-Some-one_byte-clause-whole : goal.returns-in-Some-one_byte-clause-whole
returns-in-Some-one_byte-clause-whole c e u h may =
    one_next u e c.in-Some-one_byte.escape c.in-Some.next (rest c.pass.new.self)
    (rw (c.pass.ensures c.in-Some.next (sym c.peek.ensures ∙ c.in-Some.is)) at h)
    (sym c.one_byte.ensures ∙ c.in-Some-one_byte.is)

pub returns-then-take-clause-whole : goal.returns-then-take-clause-whole
returns-then-take-clause-whole c e u h may =
    c.hex.ensures.whole e u (number_next u e _ (rw (c.take.ensures.read c.if-take.true) at h))

pub returns-then-not-take-clause-whole : goal.returns-then-not-take-clause-whole
returns-then-not-take-clause-whole c e u h may =
    let at = sym c.peek.ensures ∙ c.in-Some.is in
    let x = front_of (rest c.args.cursor.now) c.in-Some.next at in
    other_escape u e c.in-Some.next x.0 (rw x.1 at h) (sym c.one_byte.ensures ∙ c.in_default-one_byte.is)
    (λ same. c.take.ensures.other c.if-take.false (at ∙ ap Some same))
    (λ same. c.take-2.ensures.other c.if-not-take.true
    (ap (λ y. slice_get (rest y) 0) (c.take.ensures.left c.if-take.false) ∙ at ∙ ap Some same))

pub returns-in_err-boundary-clause-whole : goal.returns-in_err-boundary-clause-whole
returns-in_err-boundary-clause-whole c e u h may =
    let x = boundary_next u e _ (rw (ap rest (sym (c.take.ensures.left c.if-take.false))
    ∙ c.take-2.ensures.read c.if-not-take.false) at h) in
    search (rules, c.in_err-boundary.ensures.whole x.0 u x.2 (may x.0 x.1))

pub returns-clause-whole : goal.returns-clause-whole
returns-clause-whole c e u h may =
    let x = boundary_next u e _ (rw (ap rest (sym (c.take.ensures.left c.if-take.false))
    ∙ c.take-2.ensures.read c.if-not-take.false) at h) in
    let y = c.in_ok-boundary.ensures.whole x.0 u x.2 (may x.0 x.1) in (rw (x.1, y.0) refl, y.1)
