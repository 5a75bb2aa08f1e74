use Rattle.determinize_syntax.specs.Private.Names.{is_local}
use Rattle.determinize_syntax.proofs.Common.{◌∈◌, ◌∙◌, ◌∷◌, [], ap, codes, refl, rest, rules, slice_get, sym, tails}
use Rattle.determinize_syntax.proofs.Bytes.{within}
use Rattle.determinize_syntax.proofs.Flagging.{capture_next, named_at, named_p_at, opening_flags}
use Rattle.determinize_syntax.proofs.Flagging.{opening_next, opening_sign}
use Rattle.determinize_syntax.proofs.Limits.{local_right, passes_byte, passes_none, passes_part, passes_then, right_after}
use Rattle.determinize_syntax.proofs.Munch.{name_sign}
use Rattle.determinize_syntax.proofs.Rules.{flags_read, named_p_read, named_read, opens_capture}
use Rattle.determinize_syntax.proofs.group.read_opening.Goals as goal

pub returns-then-not-take-clause-read : goal.returns-then-not-take-clause-read
returns-then-not-take-clause-read c =
    ([], ap rest (sym (c.take.ensures.left c.if-not-take.true)), opens_capture c.args.flags)

pub returns-then-take-clause-read : goal.returns-then-take-clause-read
returns-then-take-clause-read c = named_p_read c.args.flags (c.take.ensures.read c.if-not-take.false)
    (c.take-2.ensures.read c.if-take.true) (c.take-then-take.ensures.read c.if-not-take-2.false)
    c.in_ok-name.ensures.read

pub returns-then-take-2-clause-read : goal.returns-then-take-2-clause-read
returns-then-take-2-clause-read c = named_read c.args.flags (c.take.ensures.read c.if-not-take.false)
    (ap rest (sym (c.take-2.ensures.left c.if-take.false)) ∙ c.take-3.ensures.read c.if-take-2.true)
    (rw (c.looks_around.ensures.left c.if-looks_around.false) at c.in_ok-name-2.ensures.read)

pub returns-clause-read : goal.returns-clause-read
returns-clause-read c =
    flags_read c.args.flags c.in_ok-flags.flags (c.take.ensures.read c.if-not-take.false)
    (rw (c.looks_around-2.ensures.left c.if-looks_around-2.false ∙ c.take-3.ensures.left c.if-take-2.false
    ∙ c.take-2.ensures.left c.if-take.false) at c.in_ok-flags.ensures.read)
    (c.take-4.ensures.read c.if-not-take-3.false)

pub returns-then-not-take-clause-whole : goal.returns-then-not-take-clause-whole
returns-then-not-take-clause-whole c k h =
    rw (c.take.ensures.left c.if-not-take.true)
    (capture_next k c.args.flags _ h (c.take.ensures.other c.if-not-take.true))

pub returns-then-take-clause-whole : goal.returns-then-take-clause-whole
returns-then-take-clause-whole c k h =
    let p = named_p_at k c.args.flags h (c.take.ensures.read c.if-not-take.false) (c.take-2.ensures.read c.if-take.true)
    in
    let n = p.2 in
    rw (c.in_ok-name.ensures.whole n.0 n.1 (tails (sym (c.take-then-take.ensures.read c.if-not-take-2.false) ∙ p.1)
    ∙ n.2) n.3) n.4

pub returns-then-not-take-2-clause-whole : goal.returns-then-not-take-2-clause-whole
returns-then-not-take-2-clause-whole c k h =
    let p = named_p_at k c.args.flags h (c.take.ensures.read c.if-not-take.false) (c.take-2.ensures.read c.if-take.true)
    in
    absurd (c.take-then-take.ensures.other c.if-not-take-2.true (ap (λ l. slice_get l 0) p.1))

pub returns-in_err-name-clause-whole : goal.returns-in_err-name-clause-whole
returns-in_err-name-clause-whole c k h =
    let p = named_p_at k c.args.flags h (c.take.ensures.read c.if-not-take.false) (c.take-2.ensures.read c.if-take.true)
    in
    let n = p.2 in
    let limit = c.in_err-name.ensures.whole n.0 n.1 (tails (sym (c.take-then-take.ensures.read c.if-not-take-2.false)
    ∙ p.1) ∙ n.2) n.3 in
    search (rules, limit)

pub returns-then-looks_around-clause-whole : goal.returns-then-looks_around-clause-whole
returns-then-looks_around-clause-whole c k h =
    let n = named_at k c.args.flags h (c.take.ensures.read c.if-not-take.false)
    (ap rest (sym (c.take-2.ensures.left c.if-take.false)) ∙ c.take-3.ensures.read c.if-take-2.true) in
    let s = c.looks_around.ensures.begun c.if-looks_around.true in
    name_sign n.0 (0x3E ∷ n.1) (rest c.take-3.new.self) n.3 n.2 s.0 s.1 s.2
    (within (λ y. y ∈ "=!>") (codes "=!") s.0 s.3 refl)

pub returns-in_err-name-2-clause-whole : goal.returns-in_err-name-2-clause-whole
returns-in_err-name-2-clause-whole c k h =
    let n = named_at k c.args.flags h (c.take.ensures.read c.if-not-take.false)
    (ap rest (sym (c.take-2.ensures.left c.if-take.false)) ∙ c.take-3.ensures.read c.if-take-2.true) in
    let limit = c.in_err-name-2.ensures.whole n.0 n.1 (ap rest (c.looks_around.ensures.left c.if-looks_around.false)
    ∙ n.2) n.3 in
    search (rules, limit)

pub returns-then-take-2-clause-whole : goal.returns-then-take-2-clause-whole
returns-then-take-2-clause-whole c k h =
    let n = named_at k c.args.flags h (c.take.ensures.read c.if-not-take.false)
    (ap rest (sym (c.take-2.ensures.left c.if-take.false)) ∙ c.take-3.ensures.read c.if-take-2.true) in
    rw (c.in_ok-name-2.ensures.whole n.0 n.1
    (ap rest (c.looks_around.ensures.left c.if-looks_around.false) ∙ n.2) n.3) n.4

pub returns-then-looks_around-2-clause-whole : goal.returns-then-looks_around-2-clause-whole
returns-then-looks_around-2-clause-whole c k h =
    let same = c.take-3.ensures.left c.if-take-2.false ∙ c.take-2.ensures.left c.if-take.false in
    let s = c.looks_around-2.ensures.begun c.if-looks_around-2.true in
    opening_sign k c.args.flags s.0 s.1 (opening_next k c.args.flags _
    (rw (c.take.ensures.read c.if-not-take.false, ap rest (sym same) ∙ s.2) at h))
    (within (λ y. y ∈ "=!)") (codes "=!") s.0 s.3 refl)

pub returns-in_err-flags-clause-whole : goal.returns-in_err-flags-clause-whole
returns-in_err-flags-clause-whole c k h =
    let x = opening_flags k c.args.flags _ (opening_next k c.args.flags _
    (rw (c.take.ensures.read c.if-not-take.false) at h))
    (rw (c.take-2.ensures.left c.if-take.false) at (c.take-3.ensures.other c.if-take-2.false))
    (λ v e. c.take-2.ensures.other c.if-take.false (ap (λ l. slice_get l 0) e)) in
    let limit = c.in_err-flags.ensures.whole x.0 (0x3A ∷ x.1)
    (rw (c.looks_around-2.ensures.left c.if-looks_around-2.false ∙ c.take-3.ensures.left c.if-take-2.false
    ∙ c.take-2.ensures.left c.if-take.false) x.2) (0x3A, x.1, refl, refl) in
    search (rules, limit)

pub returns-then-not-take-3-clause-whole : goal.returns-then-not-take-3-clause-whole
returns-then-not-take-3-clause-whole c k h =
    let x = opening_flags k c.args.flags _ (opening_next k c.args.flags _
    (rw (c.take.ensures.read c.if-not-take.false) at h))
    (rw (c.take-2.ensures.left c.if-take.false) at (c.take-3.ensures.other c.if-take-2.false))
    (λ v e. c.take-2.ensures.other c.if-take.false (ap (λ l. slice_get l 0) e)) in
    let y = c.in_ok-flags.ensures.whole x.0 (0x3A ∷ x.1)
    (rw (c.looks_around-2.ensures.left c.if-looks_around-2.false ∙ c.take-3.ensures.left c.if-take-2.false
    ∙ c.take-2.ensures.left c.if-take.false) x.2) (0x3A, x.1, refl, refl) in
    absurd (c.take-4.ensures.other c.if-not-take-3.true (ap (λ l. slice_get l 0) y.1))

pub returns-clause-whole : goal.returns-clause-whole
returns-clause-whole c k h =
    let x = opening_flags k c.args.flags _ (opening_next k c.args.flags _
    (rw (c.take.ensures.read c.if-not-take.false) at h))
    (rw (c.take-2.ensures.left c.if-take.false) at (c.take-3.ensures.other c.if-take-2.false))
    (λ v e. c.take-2.ensures.other c.if-take.false (ap (λ l. slice_get l 0) e)) in
    let y = c.in_ok-flags.ensures.whole x.0 (0x3A ∷ x.1)
    (rw (c.looks_around-2.ensures.left c.if-looks_around-2.false ∙ c.take-3.ensures.left c.if-take-2.false
    ∙ c.take-2.ensures.left c.if-take.false) x.2) (0x3A, x.1, refl, refl) in
    rw (y.0, tails (sym (c.take-4.ensures.read c.if-not-take-3.false) ∙ y.1)) x.3

pub returns-then-not-take-clause-limits : goal.returns-then-not-take-clause-limits
returns-then-not-take-clause-limits c levels = rw (c.take.ensures.left c.if-not-take.true) (passes_none _ _)

pub returns-in_err-name-clause-limits : goal.returns-in_err-name-clause-limits
returns-in_err-name-clause-limits c levels =
    let before = passes_byte 0x50 (passes_byte 0x3F (passes_none c.args.context.now (rest c.args.cursor.now))
    (c.take.ensures.read c.if-not-take.false)) (c.take-2.ensures.read c.if-take.true) in
    let limit = right_after (rw (c.take-then-take.ensures.read c.if-not-take-2.false) at before)
    (c.in_err-name.ensures.limits levels) in
    search (rules, limit)

pub returns-then-take-clause-limits : goal.returns-then-take-clause-limits
returns-then-take-clause-limits c levels =
    let before = passes_byte 0x50 (passes_byte 0x3F (passes_none c.args.context.now (rest c.args.cursor.now))
    (c.take.ensures.read c.if-not-take.false)) (c.take-2.ensures.read c.if-take.true) in
    passes_then (rw (c.take-then-take.ensures.read c.if-not-take-2.false) at before)
    (c.in_ok-name.ensures.limits levels) refl

pub returns-in_err-name-2-clause-limits : goal.returns-in_err-name-2-clause-limits
returns-in_err-name-2-clause-limits c levels =
    let before = passes_byte 0x3F (passes_none c.args.context.now (rest c.args.cursor.now))
    (c.take.ensures.read c.if-not-take.false) in
    let there = ap rest (sym (c.take-2.ensures.left c.if-take.false)) ∙ c.take-3.ensures.read c.if-take-2.true in
    let limit = right_after (rw there at before) (rw (c.looks_around.ensures.left c.if-looks_around.false) at
    (c.in_err-name-2.ensures.limits levels)) in
    search (rules, limit)

pub returns-then-take-2-clause-limits : goal.returns-then-take-2-clause-limits
returns-then-take-2-clause-limits c levels =
    let before = passes_byte 0x3F (passes_none c.args.context.now (rest c.args.cursor.now))
    (c.take.ensures.read c.if-not-take.false) in
    let there = ap rest (sym (c.take-2.ensures.left c.if-take.false)) ∙ c.take-3.ensures.read c.if-take-2.true in
    passes_then (rw there at before)
    (rw (c.looks_around.ensures.left c.if-looks_around.false) at (c.in_ok-name-2.ensures.limits levels)) refl

pub returns-clause-limits : goal.returns-clause-limits
returns-clause-limits c levels =
    passes_byte 0x3A (passes_part (passes_byte 0x3F (passes_none _ _) (c.take.ensures.read c.if-not-take.false))
    (rw (c.looks_around-2.ensures.left c.if-looks_around-2.false ∙ c.take-3.ensures.left c.if-take-2.false
    ∙ c.take-2.ensures.left c.if-take.false) at c.in_ok-flags.ensures.read))
    (c.take-4.ensures.read c.if-not-take-3.false)

pub returns-then-not-take-2-clause-limits : goal.returns-then-not-take-2-clause-limits
returns-then-not-take-2-clause-limits c levels =
    local_right levels _ _ c.error_here.result (ap is_local c.error_here.ensures)

pub returns-then-looks_around-clause-limits : goal.returns-then-looks_around-clause-limits
returns-then-looks_around-clause-limits c levels =
    local_right levels _ _ c.error_since.result (ap is_local c.error_since.ensures)

pub returns-then-looks_around-2-clause-limits : goal.returns-then-looks_around-2-clause-limits
returns-then-looks_around-2-clause-limits c levels =
    local_right levels _ _ c.error_since-then-looks_around-2.result
    (ap is_local c.error_since-then-looks_around-2.ensures)

pub returns-in_err-flags-clause-limits : goal.returns-in_err-flags-clause-limits
returns-in_err-flags-clause-limits c levels =
    let limit = local_right levels c.args.context.now (rest c.args.cursor.now) c.in_err-flags.field-0.0
    c.in_err-flags.ensures.local in
    search (rules, limit)

pub returns-then-not-take-3-clause-limits : goal.returns-then-not-take-3-clause-limits
returns-then-not-take-3-clause-limits c levels =
    local_right levels _ _ c.error_here-then-not-take-3.result (ap is_local c.error_here-then-not-take-3.ensures)
