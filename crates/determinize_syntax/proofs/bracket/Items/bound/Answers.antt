use Rattle.determinize_syntax.proofs.Common.{◌∙◌, ◌∷◌, Bound, Reads, Some, ap, at_end, clash, front_of, ok_then}
use Rattle.determinize_syntax.proofs.Common.{prefixed, renamed, rest, rules, slice_get, sym, took}
use Rattle.determinize_syntax.proofs.Nexts.{bound_byte, bound_escape, bound_listed, bound_wide, no_bound, no_hyphen, no_other_end}
use Rattle.determinize_syntax.specs.Spells as s
use Rattle.determinize_syntax.proofs.bracket.Items.bound.Goals as goal

pub returns-in-Byte-clause-read : goal.returns-in-Byte-clause-read
returns-in-Byte-clause-read c =
    rw c.from.ensures (prefixed (Bound c.args.flags c.in-Byte.byte) (c.take.ensures.read c.if-take.true)
    (renamed _ (λ t. Bound c.args.flags c.in-Byte.byte (0x5C ∷ t)) (rw c.in-Byte.is at c.in_ok-escape.ensures.read)
    (λ t x. s.escaped c.in-Byte.byte (0x5C ∷ t) x)))

pub returns-in-Wide-clause-read : goal.returns-in-Wide-clause-read
returns-in-Wide-clause-read c =
    prefixed (Bound c.args.flags c.in-Wide.character) (c.take.ensures.read c.if-take.true)
    (renamed _ (λ t. Bound c.args.flags c.in-Wide.character (0x5C ∷ t)) (rw c.in-Wide.is at c.in_ok-escape.ensures.read)
    (λ t x. s.character c.in-Wide.character (0x5C ∷ t) c.if-flags.true x))

pub returns-then-not-is_ascii-clause-read : goal.returns-then-not-is_ascii-clause-read
returns-then-not-is_ascii-clause-read c =
    let start = c.take-2.ensures.left c.if-take-2.false ∙ c.take.ensures.left c.if-take.false in
    ok_then _ (λ h. Reads c.args.cursor.now c.wide.new.cursor (Bound c.args.flags h)) c.wide.result
    (rw start at c.wide.ensures.read) (λ h read. renamed _ (Bound c.args.flags h) read (λ t x. s.character h t x.0 x.1))

pub returns-clause-read : goal.returns-clause-read
returns-clause-read c =
    let start = c.take-2.ensures.left c.if-take-2.false ∙ c.take.ensures.left c.if-take.false in
    let at = ap (λ y. slice_get (rest y) 0) start ∙ sym c.peek.ensures ∙ c.in-Some.is in
    rw c.from-2.ensures (took (Bound c.args.flags c.in-Some.next)
    (ap rest (sym start) ∙ c.pass.ensures c.in-Some.next at)
    (s.plain c.in-Some.next (sym c.may_end_range.ensures ∙ c.if-not-may_end_range.false)))

pub returns-in_default-clause-whole : goal.returns-in_default-clause-whole
returns-in_default-clause-whole c h u part =
    no_bound c.args.flags h u (rw (at_end (rest c.args.cursor.now) (sym c.peek.ensures ∙ c.in_default.is)) at part)

pub returns-in_err-escape-clause-whole : goal.returns-in_err-escape-clause-whole
returns-in_err-escape-clause-whole c h u part =
    let e = bound_escape c.args.flags h u _ (rw (c.take.ensures.read c.if-take.true) at part) in
    search (rules, c.in_err-escape.ensures.whole e.0 u e.1 (λ look same. absurd (rw same at e.2)))

pub returns-in-Byte-clause-whole : goal.returns-in-Byte-clause-whole
returns-in-Byte-clause-whole c h u part =
    let x = bound_listed c.args.flags h u _ (rw (c.take.ensures.read c.if-take.true) at part)
    c.in_ok-escape.ensures.whole in
    let same = rw c.in-Byte.is at x.0 in (c.from.ensures ∙ same, x.1)

pub returns-in-Wide-clause-whole : goal.returns-in-Wide-clause-whole
returns-in-Wide-clause-whole c h u part =
    let x = bound_listed c.args.flags h u _ (rw (c.take.ensures.read c.if-take.true) at part)
    c.in_ok-escape.ensures.whole in
    let same = rw c.in-Wide.is at x.0 in (same.1, x.1)

pub returns-in-Wide-2-clause-whole : goal.returns-in-Wide-2-clause-whole
returns-in-Wide-2-clause-whole c h u part =
    let x = bound_listed c.args.flags h u _ (rw (c.take.ensures.read c.if-take.true) at part)
    c.in_ok-escape.ensures.whole in
    let same = rw c.in-Wide-2.is at x.0 in clash same.0 c.if-flags.false

pub returns-in_default-escape-clause-whole : goal.returns-in_default-escape-clause-whole
returns-in_default-escape-clause-whole c h u part =
    let x = bound_listed c.args.flags h u _ (rw (c.take.ensures.read c.if-take.true) at part)
    c.in_ok-escape.ensures.whole in
    no_other_end c.args.flags h c.in_ok-escape.escape x.0 c.in_default-escape.not-Byte c.in_default-escape.not-Wide

pub returns-then-take-2-clause-whole : goal.returns-then-take-2-clause-whole
returns-then-take-2-clause-whole c h u part =
    no_hyphen c.args.flags h u _
    (rw (ap rest (sym (c.take.ensures.left c.if-take.false)) ∙ c.take-2.ensures.read c.if-take-2.true) at part)

pub returns-then-not-is_ascii-clause-whole : goal.returns-then-not-is_ascii-clause-whole
returns-then-not-is_ascii-clause-whole c h u part =
    let start = c.take-2.ensures.left c.if-take-2.false ∙ c.take.ensures.left c.if-take.false in
    let x = front_of (rest c.args.cursor.now) c.in-Some.next (sym c.peek.ensures ∙ c.in-Some.is) in
    let y = bound_wide c.args.flags h u c.in-Some.next x.0 (rw x.1 at part)
    (sym c.is_ascii.ensures ∙ c.if-not-is_ascii.true) in
    c.wide.ensures.whole h u y.0 y.1.0 (ap rest start ∙ x.1 ∙ y.1.2)

pub returns-then-not-may_end_range-clause-whole : goal.returns-then-not-may_end_range-clause-whole
returns-then-not-may_end_range-clause-whole c h u part =
    let at = sym c.peek.ensures ∙ c.in-Some.is in
    let x = front_of (rest c.args.cursor.now) c.in-Some.next at in
    let y = bound_byte c.args.flags h u c.in-Some.next x.0 (rw x.1 at part)
    (sym c.is_ascii.ensures ∙ c.if-not-is_ascii.false)
    (λ same. c.take.ensures.other c.if-take.false (at ∙ ap Some same)) in
    clash (c.may_end_range.ensures ∙ y.0) c.if-not-may_end_range.true

pub returns-clause-whole : goal.returns-clause-whole
returns-clause-whole c h u part =
    let start = c.take-2.ensures.left c.if-take-2.false ∙ c.take.ensures.left c.if-take.false in
    let at = sym c.peek.ensures ∙ c.in-Some.is in
    let text = ap rest (sym start) ∙ c.pass.ensures c.in-Some.next (ap (λ y. slice_get (rest y) 0) start ∙ at) in
    let y = bound_byte c.args.flags h u c.in-Some.next (rest c.pass.new.self) (rw text at part)
    (sym c.is_ascii.ensures ∙ c.if-not-is_ascii.false)
    (λ same. c.take.ensures.other c.if-take.false (at ∙ ap Some same)) in
    (c.from-2.ensures ∙ y.1, y.2)
