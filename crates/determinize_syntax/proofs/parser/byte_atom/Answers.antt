use Rattle.determinize_syntax.proofs.Common.{◌&&◌, ◌∈◌, ◌∙◌, ◌≡◌, Atom, ap, at_end, by_cases, character, clash, codes}
use Rattle.determinize_syntax.proofs.Common.{encode_same, encode_utf8, false, is_ascii, itself, meaning, not}
use Rattle.determinize_syntax.proofs.Common.{refl, rest, sym, took, true}
use Rattle.determinize_syntax.specs.Spells.{plain}
use Rattle.determinize_syntax.proofs.Bytes.{within}
use Rattle.determinize_syntax.proofs.Rules.{shorter_by_character}
use Rattle.determinize_syntax.proofs.Stepping.{atom_some, byte_at, byte_next, sign_next}
use Rattle.determinize_syntax.proofs.parser.byte_atom.Goals as goal

pub returns-then-is_sign-clause-read : goal.returns-then-is_sign-clause-read
returns-then-is_sign-clause-read c =
    took (Atom c.args.flags (meaning c.in_ok-sign.field-0))
    (c.pass.ensures c.in-Some.next (sym c.peek.ensures ∙ c.in-Some.is)) c.in_ok-sign.ensures

pub returns-then-not-is_ascii-clause-read : goal.returns-then-not-is_ascii-clause-read
returns-then-not-is_ascii-clause-read c =
    let ch = c.in-Some-take_wide.character in (
      encode_utf8 ch,
      c.in-Some-take_wide.ensures.read.1,
      rw c.in_ok-wide.ensures (character c.args.flags ch (encode_utf8 ch) (itself ch c.in-Some-take_wide.ensures.read.0)
          (sym c.know_cases.ensures ∙ c.if-not-know_cases.false)),
    )

pub returns-then-not-is_ascii-clause-progress : goal.returns-then-not-is_ascii-clause-progress
returns-then-not-is_ascii-clause-progress c =
    shorter_by_character c.in-Some-take_wide.character (rest c.args.cursor.now) (rest c.take_wide.new.self)
    c.in-Some-take_wide.ensures.read.1

pub returns-clause-read : goal.returns-clause-read
returns-clause-read c =
    let b = c.in-Some.next in
    let no : (b ∈ "\\.+*?()|[{^$") ≡ false = sym c.is_special.ensures ∙ c.if-is_special.false in
    let low : is_ascii b ≡ true = sym c.is_ascii.ensures ∙ c.if-not-is_ascii.false in
    let re = meaning c.in_ok-byte.field-0 in
    took (Atom c.args.flags re) (c.pass-2.ensures b (sym c.peek.ensures ∙ c.in-Some.is))
    (plain c.args.flags b re (ap (λ x. is_ascii b && not x) no ∙ ap (λ x. x && true) low)
    (sym c.know_cases.ensures ∙ c.if-not-know_cases.false) c.in_ok-byte.ensures)

pub returns-in_default-clause-whole : goal.returns-in_default-clause-whole
returns-in_default-clause-whole c k h other =
    atom_some k c.args.flags (rw (at_end (rest c.args.cursor.now) (sym c.peek.ensures ∙ c.in_default.is)) at h)

pub returns-then-is_sign-clause-whole : goal.returns-then-is_sign-clause-whole
returns-then-is_sign-clause-whole c k h other =
    sign_next k c.args.flags c.in-Some.next _
    (rw (c.pass.ensures c.in-Some.next (sym c.peek.ensures ∙ c.in-Some.is)) at h)
    (sym c.is_sign.ensures ∙ c.if-is_sign.true)

pub returns-then-is_special-clause-whole : goal.returns-then-is_special-clause-whole
returns-then-is_special-clause-whole c k h other =
    let x = byte_at k c.args.flags _ c.in-Some.next (sym c.peek.ensures ∙ c.in-Some.is) h other
    (sym c.is_sign.ensures ∙ c.if-is_sign.false) in
    let special = sym c.is_special.ensures ∙ c.if-is_special.true in
    by_cases x.2.1 (λ y. clash special y.1)
    (λ y. clash (within is_ascii (codes "\\.+*?()|[{^$") c.in-Some.next special refl) y.2.1)

pub returns-then-not-know_cases-clause-whole : goal.returns-then-not-know_cases-clause-whole
returns-then-not-know_cases-clause-whole c k h other =
    let x = byte_at k c.args.flags _ c.in-Some.next (sym c.peek.ensures ∙ c.in-Some.is) h other
    (sym c.is_sign.ensures ∙ c.if-is_sign.false) in
    clash x.2.0 (sym c.know_cases.ensures ∙ c.if-not-know_cases.true)

pub returns-in_default-take_wide-clause-whole : goal.returns-in_default-take_wide-clause-whole
returns-in_default-take_wide-clause-whole c k h other =
    let x = byte_at k c.args.flags _ c.in-Some.next (sym c.peek.ensures ∙ c.in-Some.is) h other
    (sym c.is_sign.ensures ∙ c.if-is_sign.false) in
    by_cases x.2.1 (λ y. clash y.0 (sym c.is_ascii.ensures ∙ c.if-not-is_ascii.true))
    (λ y. absurd (c.in_default-take_wide.ensures.other y.0 y.1 y.2.0 (x.1 ∙ y.2.2)))

pub returns-then-not-is_ascii-clause-whole : goal.returns-then-not-is_ascii-clause-whole
returns-then-not-is_ascii-clause-whole c k h other =
    let x = byte_at k c.args.flags _ c.in-Some.next (sym c.peek.ensures ∙ c.in-Some.is) h other
    (sym c.is_sign.ensures ∙ c.if-is_sign.false) in
    by_cases x.2.1 (λ y. clash y.0 (sym c.is_ascii.ensures ∙ c.if-not-is_ascii.true))
    (λ y. rw (encode_same c.in-Some-take_wide.character y.0 (rest c.take_wide.new.self) y.1
    (sym c.in-Some-take_wide.ensures.read.1 ∙ x.1 ∙ y.2.2)).1 y.3)

pub returns-clause-whole : goal.returns-clause-whole
returns-clause-whole c k h other =
    let at = sym c.peek.ensures ∙ c.in-Some.is in
    by_cases (byte_next k c.args.flags c.in-Some.next _ (rw (c.pass-2.ensures c.in-Some.next at) at h)
    (other c.in-Some.next at) (sym c.is_sign.ensures ∙ c.if-is_sign.false)).1 (λ y. y.2)
    (λ y. clash (sym c.is_ascii.ensures ∙ c.if-not-is_ascii.false) y.2.1)
