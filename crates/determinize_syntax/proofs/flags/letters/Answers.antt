use Rattle.determinize_syntax.proofs.Common.{◌++◌, ◌∙◌, ◌≡◌, Letters, [], ap, append_assoc, at_end, refl, rest, rules}
use Rattle.determinize_syntax.proofs.Common.{subst, sym}
use Rattle.determinize_syntax.specs.Spells.{no_letter}
use Rattle.determinize_syntax.proofs.Flagging.{after_here, letters_end, letters_none, not_after}
use Rattle.determinize_syntax.proofs.Rules.{letters_read}
use Rattle.determinize_syntax.proofs.flags.letters.Goals as goal

pub loop-cursor-init : goal.loop-cursor-init
loop-cursor-init c = (([], refl, no_letter), λ g u h after. ([], refl, h))

pub loop-cursor-preserved : goal.loop-cursor-preserved
loop-cursor-preserved c = (
  letters_read c.args.flags c.loop-cursor.flags c.in_ok-flags.field-0-0 c.loop-cursor.on c.in_ok-flags.field-0-1
      c.since-seen.result.now c.since-seen.ensures c.loop-cursor.invariant.0 c.in_ok-flags.ensures.read,
  λ g u h after.
      let b = c.loop-cursor.invariant.1 g u h after in
      let seen : c.since-seen.result.now ≡ b.0 = c.since-seen.ensures b.0 b.1 in
      let n = c.in_ok-flags.ensures.whole g u
      (subst (λ s. Letters g u s c.loop-cursor.on c.loop-cursor.flags (rest c.loop-cursor.cursor)) (sym seen) b.2) after
      (not_after (rest c.loop-cursor.cursor) c.in-Some.field-0 (sym c.peek.ensures ∙ c.in-Some.is)
      (search (c.in-Some.field-0-test))) in (
        b.0 ++ n.0,
        b.1 ∙ ap (λ w. b.0 ++ w) n.1 ∙ sym (append_assoc b.0 n.0 (rest c.next_flag.new.cursor)),
        subst (λ s. Letters g u (s ++ n.0) c.in_ok-flags.field-0-1 c.in_ok-flags.field-0-0
            (rest c.next_flag.new.cursor)) seen n.2,
      ),
)

pub returns-in_err-flags-clause-whole : goal.returns-in_err-flags-clause-whole
returns-in_err-flags-clause-whole c g u h after =
    let b = c.loop-cursor.invariant.1 g u h after in
    let limit = c.in_err-flags.ensures.whole g u (subst (λ s. Letters g u s c.loop-cursor.on c.loop-cursor.flags
    (rest c.loop-cursor.cursor)) (sym (c.since-seen.ensures b.0 b.1)) b.2) after
    (not_after (rest c.loop-cursor.cursor) c.in-Some.field-0 (sym c.peek.ensures ∙ c.in-Some.is)
    (search (c.in-Some.field-0-test))) in
    search (rules, limit)

pub returns-clause-whole : goal.returns-clause-whole
returns-clause-whole c g u h after =
    let b = c.loop-cursor.invariant.1 g u h after in
    letters_end g u b.0 c.loop-cursor.on c.loop-cursor.flags (rest c.loop-cursor.cursor) b.2
    (after_here (rest c.loop-cursor.cursor) c.in-Some-eq58.field-0
    (sym c.peek.ensures ∙ c.in-Some-eq58.is) c.in-Some-eq58.field-0-test)

pub returns-in-None-clause-whole : goal.returns-in-None-clause-whole
returns-in-None-clause-whole c g u h after =
    let b = c.loop-cursor.invariant.1 g u h after in
    letters_none g u b.0 c.loop-cursor.on c.loop-cursor.flags
    (rw (at_end (rest c.loop-cursor.cursor) (sym c.peek.ensures ∙ c.in-None.is)) at b.2) after
