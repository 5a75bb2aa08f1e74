use Rattle.determinize_syntax.proofs.Common.{◌∙◌, ◌∷◌, ◌≡◌, Bool, Bracketed, Bytes, Flags, Inner, Some, ap, by_cases}
use Rattle.determinize_syntax.proofs.Common.{char_pairs, clash, false, meaning, refl, rest, rules, slice_get, sym}
use Rattle.determinize_syntax.proofs.Common.{tails, true}
use Rattle.determinize_syntax.proofs.Characters.{one_of_listed}
use Rattle.determinize_syntax.proofs.Listing.{any_bracket_read}
use Rattle.determinize_syntax.proofs.Stepping.{bracket_next}
use Rattle.determinize_syntax.proofs.bracket.bracket.Goals as goal

pub returns-clause-read : goal.returns-clause-read
returns-clause-read c =
    let f = c.args.flags in
    let n = c.take-negated.result in
    let ranges = c.in_ok-ranges.ranges.items in
    let re = meaning c.in_ok-pattern.pattern in
    any_bracket_read f n (char_pairs ranges) re c.take-negated.ensures.read
    (λ e. ap rest (c.take-negated.ensures.left e)) c.take-negated.ensures.other c.in_ok-ranges.ensures.read
    (sym c.know_cases.ensures ∙ c.if-not-know_cases.false)
    (λ r h. one_of_listed f n r ranges re h (rw c.deref.ensures.value at c.in_ok-pattern.ensures))

-- the inside after the `^` if there is one
inner : (f : Flags) (w r new : Bytes) (negated : Bool) → Bracketed f w r → (negated ≡ true → r ≡ 0x5E ∷ new)
    → (negated ≡ false → new ≡ r) → (negated ≡ false → slice_get r 0 ≡ Some 0x5E → ⊥) → Inner f w new
inner f w r new true x read same other =
    by_cases x (λ y. rw (tails (sym y.1 ∙ read refl)) at y.2) (λ y. absurd (y.0 (ap (λ l. slice_get l 0) (read refl))))
inner f w r new false x read same other =
    by_cases x (λ y. absurd (other refl (ap (λ l. slice_get l 0) y.1))) (λ y. rw (same refl) y.1)

pub returns-in_err-ranges-clause-whole : goal.returns-in_err-ranges-clause-whole
returns-in_err-ranges-clause-whole c k h =
    let x = bracket_next k c.args.flags _ h in
    let limit = c.in_err-ranges.ensures.whole x.0 (inner c.args.flags x.0 (rest c.args.cursor.now) _ _ x.1
    c.take-negated.ensures.read (λ e. ap rest (c.take-negated.ensures.left e)) c.take-negated.ensures.other) x.2 in
    search (rules, limit)

pub returns-then-not-know_cases-clause-whole : goal.returns-then-not-know_cases-clause-whole
returns-then-not-know_cases-clause-whole c k h =
    clash (bracket_next k c.args.flags _ h).2 (sym c.know_cases.ensures ∙ c.if-not-know_cases.true)

pub returns-clause-whole : goal.returns-clause-whole
returns-clause-whole c k h =
    let x = bracket_next k c.args.flags _ h in
    rw (c.in_ok-ranges.ensures.whole x.0 (inner c.args.flags x.0 (rest c.args.cursor.now) _ _ x.1
    c.take-negated.ensures.read (λ e. ap rest (c.take-negated.ensures.left e)) c.take-negated.ensures.other) x.2) x.3
