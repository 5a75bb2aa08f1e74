use Rattle.determinize_syntax.proofs.Common.{◌∙◌, ◌∷◌, ap, arith, refl, rest, rules, slice_get, sym}
use Rattle.determinize_syntax.proofs.Counting.{at_least_passed, counted, counted_twice, exactly_passed, first_count}
use Rattle.determinize_syntax.proofs.Counting.{one_follows, past_sign}
use Rattle.determinize_syntax.proofs.Rules.{at_least_read, between_read, exactly_read}
use Rattle.determinize_syntax.proofs.repetition.counts.Goals as goal

pub returns-then-take-clause-read : goal.returns-then-take-clause-read
returns-then-take-clause-read c =
    exactly_read c.in_ok-min.min c.in_ok-min.ensures.read (c.take.ensures.read c.if-take.true) (grind (arith))

pub returns-then-take-2-clause-read : goal.returns-then-take-2-clause-read
returns-then-take-2-clause-read c =
    at_least_read c.in_ok-min.min c.in_ok-min.ensures.read
    (ap rest (sym (c.take.ensures.left c.if-take.false)) ∙ c.take-2.ensures.read c.if-not-take.false)
    (c.take-3.ensures.read c.if-take-2.true) (grind (arith))

pub returns-clause-read : goal.returns-clause-read
returns-clause-read c =
    between_read c.in_ok-min.min c.in_ok-max.max c.in_ok-min.ensures.read
    (ap rest (sym (c.take.ensures.left c.if-take.false)) ∙ c.take-2.ensures.read c.if-not-take.false)
    (rw (c.take-3.ensures.left c.if-take-2.false) at c.in_ok-max.ensures.read)
    (c.take-4.ensures.read c.if-not-take-2.false) c.if-max-min.false (grind (arith))

pub returns-in_err-min-clause-whole : goal.returns-in_err-min-clause-whole
returns-in_err-min-clause-whole c u h =
    let x = first_count (rest c.args.cursor.now) u h in search (rules, c.in_err-min.ensures.whole x.0 x.1 x.2 x.3)

pub returns-then-take-clause-whole : goal.returns-then-take-clause-whole
returns-then-take-clause-whole c u h =
    exactly_passed c.in_ok-min.min u _
    (rw (c.take.ensures.read c.if-take.true) at (counted _ _ u _ h c.in_ok-min.ensures.whole))

pub returns-then-not-take-clause-whole : goal.returns-then-not-take-clause-whole
returns-then-not-take-clause-whole c u h =
    one_follows c.in_ok-min.min u _ (counted _ _ u _ h c.in_ok-min.ensures.whole) (c.take.ensures.other c.if-take.false)
    (rw (c.take.ensures.left c.if-take.false) at (c.take-2.ensures.other c.if-not-take.true))

pub returns-then-take-2-clause-whole : goal.returns-then-take-2-clause-whole
returns-then-take-2-clause-whole c u h =
    at_least_passed c.in_ok-min.min u _ (rw (
      ap rest (sym (c.take.ensures.left c.if-take.false)) ∙ c.take-2.ensures.read c.if-not-take.false,
      c.take-3.ensures.read c.if-take-2.true,
    ) at (counted _ _ u _ h c.in_ok-min.ensures.whole))

pub returns-in_err-max-clause-whole : goal.returns-in_err-max-clause-whole
returns-in_err-max-clause-whole c u h =
    let s = counted_twice _ _ u _ h c.in_ok-min.ensures.whole _ (rest c.take-3.new.self)
    (ap rest (sym (c.take.ensures.left c.if-take.false)) ∙ c.take-2.ensures.read c.if-not-take.false)
    (c.take-3.ensures.other c.if-take-2.false) (ap rest (c.take-3.ensures.left c.if-take-2.false)) in
    search (rules, c.in_err-max.ensures.whole s.0 (0x7D ∷ u) s.1 (past_sign 0x7D u refl))

pub returns-then-not-take-2-clause-whole : goal.returns-then-not-take-2-clause-whole
returns-then-not-take-2-clause-whole c u h =
    let s = counted_twice _ _ u _ h c.in_ok-min.ensures.whole _ (rest c.take-3.new.self)
    (ap rest (sym (c.take.ensures.left c.if-take.false)) ∙ c.take-2.ensures.read c.if-not-take.false)
    (c.take-3.ensures.other c.if-take-2.false) (ap rest (c.take-3.ensures.left c.if-take-2.false)) in
    let z = c.in_ok-max.ensures.whole s.0 (0x7D ∷ u) s.1 (past_sign 0x7D u refl) in
    absurd (c.take-4.ensures.other c.if-not-take-2.true (ap (λ l. slice_get l 0) z.1))

pub returns-then-max-min-clause-whole : goal.returns-then-max-min-clause-whole
returns-then-max-min-clause-whole c u h =
    let s = counted_twice _ _ u _ h c.in_ok-min.ensures.whole _ (rest c.take-3.new.self)
    (ap rest (sym (c.take.ensures.left c.if-take.false)) ∙ c.take-2.ensures.read c.if-not-take.false)
    (c.take-3.ensures.other c.if-take-2.false) (ap rest (c.take-3.ensures.left c.if-take-2.false)) in
    let z = c.in_ok-max.ensures.whole s.0 (0x7D ∷ u) s.1 (past_sign 0x7D u refl) in
    absurd (omega (arith, c.if-max-min.true, s.2, z.0))

pub returns-clause-whole : goal.returns-clause-whole
returns-clause-whole c u h =
    let s = counted_twice _ _ u _ h c.in_ok-min.ensures.whole _ (rest c.take-3.new.self)
    (ap rest (sym (c.take.ensures.left c.if-take.false)) ∙ c.take-2.ensures.read c.if-not-take.false)
    (c.take-3.ensures.other c.if-take-2.false) (ap rest (c.take-3.ensures.left c.if-take-2.false)) in
    let z = c.in_ok-max.ensures.whole s.0 (0x7D ∷ u) s.1 (past_sign 0x7D u refl) in
    let r = sym (c.take-4.ensures.read c.if-not-take-2.false) ∙ z.1 in (cc)
