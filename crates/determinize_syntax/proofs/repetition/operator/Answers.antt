use Rattle.determinize_syntax.proofs.Common.{◌∈◌, ◌∙◌, ◌≡◌, Operator, Some, ap, arith, false, prefixed, rest, rules}
use Rattle.determinize_syntax.proofs.Common.{some_injective, sym, took, ℕ}
use Rattle.determinize_syntax.proofs.Stepping.{counts_begin, no_sign, sign_passed}
use Rattle.determinize_syntax.proofs.repetition.operator.Goals as goal

pub returns-in-Some-bounds_of-clause-read : goal.returns-in-Some-bounds_of-clause-read
returns-in-Some-bounds_of-clause-read c =
    let b = c.in-Some-bounds_of.bounds in
    took (Operator b.min b.max) (c.pass.ensures c.in-Some.next (sym c.peek.ensures ∙ c.in-Some.is))
    c.in-Some-bounds_of.ensures.some.0

pub returns-clause-read : goal.returns-clause-read
returns-clause-read c = prefixed (Operator c.in_ok-bounds.bounds.min c.in_ok-bounds.bounds.max)
    (c.take.ensures.read c.if-not-take.false) c.in_ok-bounds.ensures.read

-- neither `*`, `+`, `?` nor a brace
unsigned : (c : ℕ) → c ∈ "*+?" ≡ false → (c ≡ 0x7B → ⊥) → c ∈ "*+?{" ≡ false
unsigned c none other = grind (arith, none, other)

pub returns-in_default-clause-whole : goal.returns-in_default-clause-whole
returns-in_default-clause-whole c k f e h =
    no_sign k f e (rest c.args.cursor.now) h (λ d at. absurd (c.in_default.not-Some d (c.peek.ensures ∙ at)))

pub returns-in-Some-bounds_of-clause-whole : goal.returns-in-Some-bounds_of-clause-whole
returns-in-Some-bounds_of-clause-whole c k f e h =
    sign_passed k f e c.in-Some.next (rest c.pass.new.self)
    (rw (c.pass.ensures c.in-Some.next (sym c.peek.ensures ∙ c.in-Some.is)) at h) c.in-Some-bounds_of.ensures.some.1

pub returns-then-not-take-clause-whole : goal.returns-then-not-take-clause-whole
returns-then-not-take-clause-whole c k f e h =
    rw (c.take.ensures.left c.if-not-take.true) (no_sign k f e (rest c.args.cursor.now) h (λ d at.
    rw (← some_injective c.in-Some.next d (sym c.in-Some.is ∙ c.peek.ensures ∙ at)) (unsigned c.in-Some.next
    c.in_default-bounds_of.ensures.none (λ same. c.take.ensures.other c.if-not-take.true
    (sym c.peek.ensures ∙ c.in-Some.is ∙ ap Some same)))))

pub returns-in_err-bounds-clause-whole : goal.returns-in_err-bounds-clause-whole
returns-in_err-bounds-clause-whole c k f e h =
    let x = counts_begin k f e (rest c.take.new.self) (rw (c.take.ensures.read c.if-not-take.false) at h) in
    search (rules, c.in_err-bounds.ensures.whole x.0 x.1)

pub returns-clause-whole : goal.returns-clause-whole
returns-clause-whole c k f e h =
    let x = counts_begin k f e (rest c.take.new.self) (rw (c.take.ensures.read c.if-not-take.false) at h) in
    rw (c.in_ok-bounds.ensures.whole x.0 x.1) x.2
