use Rattle.determinize_syntax.proofs.Common.{◌∙◌, ◌∷◌, ap, arith, at_end, by_cases, heads, inr, not, refl, rest, rules}
use Rattle.determinize_syntax.proofs.Common.{slice_get, sym, tails}
use Rattle.determinize_syntax.proofs.Flagging.{next_setting, no_setting, other_setting, set_or_group, setting_closed}
use Rattle.determinize_syntax.proofs.Flagging.{setting_none}
use Rattle.determinize_syntax.proofs.Rules.{none_of, setting_read}
use Rattle.determinize_syntax.proofs.flags.setting.Goals.{then-not-take-via-then-not-take}
use Rattle.determinize_syntax.proofs.flags.setting.Goals.{then-not-take-via-else-not-take+then-not-take-2}
use Rattle.determinize_syntax.proofs.flags.setting.Goals.{then-not-take-via-else-not-take+else-not-take-2+then-begins_other}
use Rattle.determinize_syntax.proofs.flags.setting.Goals as goal

pub returns-clause-read : goal.returns-clause-read
returns-clause-read c =
    setting_read c.args.flags c.in_ok-set.set (c.take.ensures.read c.if-not-take.false)
    (c.take-else-not-take.ensures.read c.if-not-take-2.false) (c.take-2.ensures.other c.if-take.false)
    (rw (c.take-2.ensures.left c.if-take.false) at c.in_ok-set.ensures.read)
    (c.take-3.ensures.read c.if-not-take-3.false)

pub returns-then-not-take-clause-whole : goal.returns-then-not-take-clause-whole
returns-then-not-take-clause-whole c k h =
    elim c.then-not-take.branch [
      | then-not-take-via-then-not-take w ↦
          no_setting k c.args.flags (rest c.args.cursor.now) h
          (λ r e. c.take.ensures.other w.if-not-take.true (ap (λ l. slice_get l 0) e))
      | then-not-take-via-else-not-take+then-not-take-2 w ↦
          no_setting k c.args.flags (rest c.args.cursor.now) h
          (λ r e. w.take-else-not-take.ensures.other w.if-not-take-2.true
          (ap (λ l. slice_get l 0) (tails (sym (c.take.ensures.read w.if-not-take.false) ∙ e))))
      | then-not-take-via-else-not-take+else-not-take-2+then-begins_other w ↦
          (let s = w.begins_other.ensures.begun w.if-begins_other.true in
          let e = c.take.ensures.read w.if-not-take.false ∙ ap (λ l. 0x28 ∷ l)
          (w.take-else-not-take.ensures.read w.if-not-take-2.false ∙ ap (λ l. 0x3F ∷ l) s.2) in
          inr (rw e (other_setting k c.args.flags s.0 s.1 (next_setting k c.args.flags _ (rw e at h)) s.3)))
    ]

pub returns-then-is_none-clause-whole : goal.returns-then-is_none-clause-whole
returns-then-is_none-clause-whole c k h =
    let e = c.take.ensures.read c.if-not-take.false
    ∙ ap (λ l. 0x28 ∷ l) (c.take-else-not-take.ensures.read c.if-not-take-2.false) in
    let none = at_end (rest c.take-else-not-take.new.self)
    (sym c.peek.ensures ∙ none_of c.peek.result (c.is_none.ensures ∙ ap not c.if-is_none.true)) in
    setting_none k c.args.flags (next_setting k c.args.flags _ (rw (e, none) at h))

pub returns-then-take-clause-whole : goal.returns-then-take-clause-whole
returns-then-take-clause-whole c k h =
    let e = c.take.ensures.read c.if-not-take.false
    ∙ ap (λ l. 0x28 ∷ l) (c.take-else-not-take.ensures.read c.if-not-take-2.false) in
    setting_closed k c.args.flags _ (next_setting k c.args.flags _ (rw (e, c.take-2.ensures.read c.if-take.true) at h))

pub returns-in_err-set-clause-whole : goal.returns-in_err-set-clause-whole
returns-in_err-set-clause-whole c k h =
    let e = c.take.ensures.read c.if-not-take.false
    ∙ ap (λ l. 0x28 ∷ l) (c.take-else-not-take.ensures.read c.if-not-take-2.false) in
    let same = c.take-2.ensures.left c.if-take.false in
    by_cases (set_or_group k c.args.flags _ (next_setting k c.args.flags _ (rw e at h))
    (c.begins_other.ensures.other c.if-begins_other.false) (c.begins_other.ensures.unnamed c.if-begins_other.false))
    (λ x. search (rules, c.in_err-set.ensures.whole x.0 (0x29 ∷ x.1) (rw same x.2) (0x29, x.1, refl, refl)))
    (λ x. search (rules, c.in_err-set.ensures.whole x.0 (0x3A ∷ x.1) (rw same x.2) (0x3A, x.1, refl, refl)))

pub returns-then-not-take-3-clause-whole : goal.returns-then-not-take-3-clause-whole
returns-then-not-take-3-clause-whole c k h =
    let e = c.take.ensures.read c.if-not-take.false
    ∙ ap (λ l. 0x28 ∷ l) (c.take-else-not-take.ensures.read c.if-not-take-2.false) in
    by_cases (set_or_group k c.args.flags _ (next_setting k c.args.flags _ (rw e at h))
    (c.begins_other.ensures.other c.if-begins_other.false) (c.begins_other.ensures.unnamed c.if-begins_other.false))
    (λ x. absurd (c.take-3.ensures.other c.if-not-take-3.true (ap (λ y. slice_get y 0) (c.in_ok-set.ensures.whole x.0
    (0x29 ∷ x.1) (rw (c.take-2.ensures.left c.if-take.false) x.2) (0x29, x.1, refl, refl)).1))) (λ x. inr (rw e x.3))

pub returns-clause-whole : goal.returns-clause-whole
returns-clause-whole c k h =
    let e = c.take.ensures.read c.if-not-take.false
    ∙ ap (λ l. 0x28 ∷ l) (c.take-else-not-take.ensures.read c.if-not-take-2.false) in
    let same = c.take-2.ensures.left c.if-take.false in
    let close = c.take-3.ensures.read c.if-not-take-3.false in
    by_cases (set_or_group k c.args.flags _ (next_setting k c.args.flags _ (rw e at h))
    (c.begins_other.ensures.other c.if-begins_other.false) (c.begins_other.ensures.unnamed c.if-begins_other.false))
    (λ x. let y = c.in_ok-set.ensures.whole x.0 (0x29 ∷ x.1) (rw same x.2) (0x29, x.1, refl, refl) in
    rw (y.0, tails (sym close ∙ y.1)) x.3)
    (λ x. let y = c.in_ok-set.ensures.whole x.0 (0x3A ∷ x.1) (rw same x.2) (0x3A, x.1, refl, refl) in
    absurd (omega (arith, heads (sym close ∙ y.1))))
