use Rattle.determinize_syntax.proofs.Common.{◌∙◌, ◌∷◌, [], ap, rest, rules, sym}
use Rattle.determinize_syntax.proofs.Flagging.{one_cleared, one_letter}
use Rattle.determinize_syntax.proofs.Rules.{cleared_read, letter_read}
use Rattle.determinize_syntax.proofs.flags.next_flag.Goals as goal

pub returns-then-not-take-clause-read : goal.returns-then-not-take-clause-read
returns-then-not-take-clause-read c =
    let seen = c.args.seen.now in
    let set = c.in_ok-set.set in
    letter_read seen c.args.flags set c.args.on (rw (c.take.ensures.left c.if-not-take.true) at
    c.in_ok-set.ensures.read)

pub returns-clause-read : goal.returns-clause-read
returns-clause-read c =
    let seen = c.args.seen.now in
    let set = c.in_ok-set-2.set in
    rw c.if-not-on.false
    (cleared_read seen c.args.flags set (c.take.ensures.read c.if-not-take.false) c.in_ok-set-2.ensures.read)

pub returns-in_err-set-clause-whole : goal.returns-in_err-set-clause-whole
returns-in_err-set-clause-whole c g u h after other =
    let y = one_letter g u c.args.seen.now c.args.on c.args.flags _ h (λ e. other (rw e after))
    (c.take.ensures.other c.if-not-take.true) in
    let limit = c.in_err-set.ensures.whole y.0 y.2 y.1 (ap rest (c.take.ensures.left c.if-not-take.true) ∙ y.3) y.4 y.5
    in
    search (rules, limit)

pub returns-then-not-take-clause-whole : goal.returns-then-not-take-clause-whole
returns-then-not-take-clause-whole c g u h after other =
    let y = one_letter g u c.args.seen.now c.args.on c.args.flags _ h (λ e. other (rw e after))
    (c.take.ensures.other c.if-not-take.true) in
    let z = c.in_ok-set.ensures.whole y.0 y.2 y.1 (ap rest (c.take.ensures.left c.if-not-take.true) ∙ y.3) y.4 y.5 in
    (y.0 ∷ [], y.3 ∙ ap (λ l. y.0 ∷ l) (sym z.1), rw (z.0, z.1) y.6)

pub returns-in_err-set-2-clause-whole : goal.returns-in_err-set-2-clause-whole
returns-in_err-set-2-clause-whole c g u h after other =
    let y = one_cleared g u c.args.seen.now c.args.on c.args.flags _ (rw (c.take.ensures.read c.if-not-take.false) at h)
    (λ e. other (rw (c.take.ensures.read c.if-not-take.false, e) after)) in
    search (rules, c.in_err-set-2.ensures.whole y.0 y.2 y.1 y.3 y.5 y.6)

pub returns-clause-whole : goal.returns-clause-whole
returns-clause-whole c g u h after other =
    let y = one_cleared g u c.args.seen.now c.args.on c.args.flags _ (rw (c.take.ensures.read c.if-not-take.false) at h)
    (λ e. other (rw (c.take.ensures.read c.if-not-take.false, e) after)) in
    let z = c.in_ok-set-2.ensures.whole y.0 y.2 y.1 y.3 y.5 y.6 in (
      0x2D ∷ y.0 ∷ [],
      c.take.ensures.read c.if-not-take.false ∙ ap (λ l. 0x2D ∷ l) (y.3 ∙ ap (λ l. y.0 ∷ l) (sym z.1)),
      rw (z.0, z.1) y.7,
    )
