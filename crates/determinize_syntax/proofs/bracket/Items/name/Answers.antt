use Rattle.determinize_syntax.proofs.Common.{◌++◌, ◌∙◌, ◌≡◌, None, Some, ap, char_pairs, named_class, rest, set_of}
use Rattle.determinize_syntax.proofs.Common.{slice_get, sym, tails}
use Rattle.determinize_syntax.proofs.Listing.{any_name_read}
use Rattle.determinize_syntax.proofs.Munch.{name_passed}
use Rattle.determinize_syntax.proofs.Nexts.{colon, name_next}
use Rattle.determinize_syntax.proofs.bracket.Items.name.Goals.{then-not-take-2-via-then-not-take-2}
use Rattle.determinize_syntax.proofs.bracket.Items.name.Goals.{then-not-take-2-via-else-not-take-2+then-not-take-3}
use Rattle.determinize_syntax.proofs.bracket.Items.name.Goals as goal

pub returns-clause-read : goal.returns-clause-read
returns-clause-read c =
    let passed = c.pass_letters.ensures.read in
    let part = passed.1 ∙ ap (λ w. w ++ rest c.pass_letters.new.cursor) (sym (c.since.ensures passed.0 passed.1)) in
    rw c.in_ok-add_class.ensures.before
    (any_name_read c.args.flags c.args.self.now.before c.since.result.now (set_of c.in-Some.kind) c.take-negated.result
    (char_pairs c.args.self.now.ranges.items) (char_pairs c.add_class.new.self.ranges.items)
    (c.take.ensures.read c.if-not-take.false) c.take-negated.ensures.read
    (λ e. ap rest (c.take-negated.ensures.left e)) part (c.take-2.ensures.read c.if-not-take-2.false)
    (c.take-else-not-take-2.ensures.read c.if-not-take-3.false) c.in-Some.ensures.some c.in_ok-add_class.ensures.ranges)

pub returns-then-not-take-clause-whole : goal.returns-then-not-take-clause-whole
returns-then-not-take-clause-whole c u h known =
    let x = name_next c.args.flags u c.args.self.now.before _ h in
    absurd (c.take.ensures.other c.if-not-take.true (colon x.0 x.2 x.3 _ x.4))

pub returns-in_default-clause-whole : goal.returns-in_default-clause-whole
returns-in_default-clause-whole c u h known =
    let x = name_next c.args.flags u c.args.self.now.before _ h in
    let y = name_passed x.0 x.1 x.2 c.take-negated.result x.5 (sym (c.take.ensures.read c.if-not-take.false) ∙ x.4)
    c.take-negated.ensures.read (λ e. ap rest (c.take-negated.ensures.left e)) c.take-negated.ensures.other
    c.pass_letters.ensures.read c.pass_letters.ensures.past c.since.ensures in
    let never : None ≡ Some x.1 = sym c.in_default.ensures.none ∙ ap named_class y.0 ∙ x.5 in absurd (cc)

pub returns-then-not-take-2-clause-whole : goal.returns-then-not-take-2-clause-whole
returns-then-not-take-2-clause-whole c u h known =
    let x = name_next c.args.flags u c.args.self.now.before _ h in
    let y = name_passed x.0 x.1 x.2 c.take-negated.result x.5 (sym (c.take.ensures.read c.if-not-take.false) ∙ x.4)
    c.take-negated.ensures.read (λ e. ap rest (c.take-negated.ensures.left e)) c.take-negated.ensures.other
    c.pass_letters.ensures.read c.pass_letters.ensures.past c.since.ensures in
    elim c.then-not-take-2.branch [
      | then-not-take-2-via-then-not-take-2 w ↦
          absurd (c.take-2.ensures.other w.if-not-take-2.true (ap (λ l. slice_get l 0) y.1))
      | then-not-take-2-via-else-not-take-2+then-not-take-3 w ↦
          absurd (w.take-else-not-take-2.ensures.other w.if-not-take-3.true
          (ap (λ l. slice_get l 0) (tails (sym (c.take-2.ensures.read w.if-not-take-2.false) ∙ y.1))))
    ]

pub returns-clause-whole : goal.returns-clause-whole
returns-clause-whole c u h known =
    let x = name_next c.args.flags u c.args.self.now.before _ h in
    let y = name_passed x.0 x.1 x.2 c.take-negated.result x.5 (sym (c.take.ensures.read c.if-not-take.false) ∙ x.4)
    c.take-negated.ensures.read (λ e. ap rest (c.take-negated.ensures.left e)) c.take-negated.ensures.other
    c.pass_letters.ensures.read c.pass_letters.ensures.past c.since.ensures in
    rw (
      c.in_ok-add_class.ensures.before,
      tails (sym (c.take-else-not-take-2.ensures.read c.if-not-take-3.false)
          ∙ tails (sym (c.take-2.ensures.read c.if-not-take-2.false) ∙ y.1)),
    ) x.6
