use Rattle.determinize_syntax.proofs.Common.{◌∙◌, ◌∷◌, ◌≡◌, [], at_end, by_cases, char_pairs, clash, front_of, renamed}
use Rattle.determinize_syntax.proofs.Common.{rest, rules, sym, took}
use Rattle.determinize_syntax.proofs.Listing.{plain_listed, wide_listed}
use Rattle.determinize_syntax.proofs.Nexts.{plain_next, starts}
use Rattle.determinize_syntax.proofs.bracket.Items.plain.Goals.{else-ascii+in_ok-character, then-ascii+else-not-stands}
use Rattle.determinize_syntax.proofs.bracket.Items.plain.Goals as goal

pub returns-clause-read : goal.returns-clause-read
returns-clause-read c =
    let old = char_pairs c.args.self.now.ranges.items in
    let before = c.args.self.now.before in
    let added = c.in_ok-add.ensures.ranges in
    rw c.in_ok-add.ensures.before (elim c.if-ascii.branch [
      | then-ascii+else-not-stands w ↦
          rw (w.cursor-is, w.character-is, w.from-character.ensures, w.if-ascii.true)
          (took _ (w.pass.ensures c.in-Some.next (sym c.peek.ensures ∙ c.in-Some.is))
          (plain_listed c.args.flags before c.in-Some.next old _ (sym w.stands.ensures ∙ w.if-not-stands.false)
          (rw (w.character-is, w.from-character.ensures) at added)))
      | else-ascii+in_ok-character w ↦
          rw (w.cursor-is, w.character-is, w.if-ascii.false) (renamed _ _ w.in_ok-character.ensures.read
          (λ t x. wide_listed c.args.flags before w.in_ok-character.character old _ t x.0 x.1
          (rw w.character-is at added)))
    ])

pub returns-in_default-clause-whole : goal.returns-in_default-clause-whole
returns-in_default-clause-whole c u h other =
    let x = starts c.args.flags u c.args.self.now.before (rest c.args.cursor.now) h in
    let never : x.0 ∷ x.1 ≡ [] = sym x.2 ∙ at_end (rest c.args.cursor.now) (sym c.peek.ensures ∙ c.in_default.is) in
    absurd (cc)

pub returns-in_err-character-clause-whole : goal.returns-in_err-character-clause-whole
returns-in_err-character-clause-whole c u h other =
    let at = sym c.peek.ensures ∙ c.in-Some.is in
    let x = front_of (rest c.args.cursor.now) c.in-Some.next at in
    by_cases (plain_next c.args.flags u c.args.self.now.before c.in-Some.next x.0 (rw x.1 at h)
    (other c.in-Some.next at)) (λ y. clash y.1 (sym c.is_ascii-ascii.ensures ∙ c.if-ascii.false))
    (λ y. search (rules, c.in_err-character.ensures.whole y.0 y.1 y.2 y.3.0 (x.1 ∙ y.3.2)))

pub returns-then-not-stands-clause-whole : goal.returns-then-not-stands-clause-whole
returns-then-not-stands-clause-whole c u h other =
    let at = sym c.peek.ensures ∙ c.in-Some.is in
    let x = front_of (rest c.args.cursor.now) c.in-Some.next at in
    by_cases (plain_next c.args.flags u c.args.self.now.before c.in-Some.next x.0 (rw x.1 at h)
    (other c.in-Some.next at)) (λ y. clash (c.stands.ensures ∙ y.0) c.if-not-stands.true)
    (λ y. clash (sym c.is_ascii-ascii.ensures ∙ c.if-ascii.true) y.3.1)

pub returns-clause-whole : goal.returns-clause-whole
returns-clause-whole c u h other =
    let at = sym c.peek.ensures ∙ c.in-Some.is in
    let before = c.args.self.now.before in
    elim c.if-ascii.branch [
      | then-ascii+else-not-stands w ↦
          by_cases (plain_next c.args.flags u before c.in-Some.next (rest w.pass.new.self)
          (rw (w.pass.ensures c.in-Some.next at) at h) (other c.in-Some.next at))
          (λ y. rw (w.cursor-is, c.in_ok-add.ensures.before, w.character-is, w.from-character.ensures, w.if-ascii.true)
          y.2) (λ y. clash (sym c.is_ascii-ascii.ensures ∙ w.if-ascii.true) y.3.1)
      | else-ascii+in_ok-character w ↦
          let x = front_of (rest c.args.cursor.now) c.in-Some.next at in
          by_cases (plain_next c.args.flags u before c.in-Some.next x.0 (rw x.1 at h) (other c.in-Some.next at))
          (λ y. clash y.1 (sym c.is_ascii-ascii.ensures ∙ w.if-ascii.false))
          (λ y. let z = w.in_ok-character.ensures.whole y.0 y.1 y.2 y.3.0 (x.1 ∙ y.3.2) in
          rw (w.cursor-is, c.in_ok-add.ensures.before, w.character-is, w.if-ascii.false, z.0, z.1) y.4)
    ]
