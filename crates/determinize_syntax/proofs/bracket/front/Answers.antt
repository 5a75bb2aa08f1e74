use Rattle.determinize_syntax.proofs.Common.{◌++◌, ◌∙◌, ◌∷◌, Some, [], ap, char_pairs, false, is_in, only, rest, sym}
use Rattle.determinize_syntax.proofs.Listing.{has_only}
use Rattle.determinize_syntax.proofs.Nexts.{front_next, items_next}
use Rattle.determinize_syntax.specs.Spells as s
use Rattle.determinize_syntax.proofs.bracket.front.Goals as goal

pub returns-then-not-take-clause-read : goal.returns-then-not-take-clause-read
returns-then-not-take-clause-read c = λ f. (
  [],
  ap rest (sym (c.take.ensures.left c.if-not-take.true)),
  (
    (λ b. false),
    s.nothing,
    (λ b small. ap (λ l. is_in (char_pairs l) (Some b)) c.new.ensures.items),
    λ e. rw (c.take.ensures.left c.if-not-take.true) (c.take.ensures.other c.if-not-take.true),
  ),
)

pub returns-clause-read : goal.returns-clause-read
returns-clause-read c = λ f. (
  0x5D ∷ [],
  c.take.ensures.read c.if-not-take.false,
  (
    only 0x5D,
    rw c.in_ok-add.ensures.before s.closing,
    (λ b small. ap (λ l. is_in l (Some b)) (c.in_ok-add.ensures.ranges
        ∙ ap (λ l. char_pairs l ++ (0x5D, 0x5D) ∷ []) c.new.ensures.items) ∙ has_only 0x5D b small),
    λ e. absurd (cc),
  ),
)

pub returns-then-not-take-clause-whole : goal.returns-then-not-take-clause-whole
returns-then-not-take-clause-whole c f u h =
    rw (c.take.ensures.left c.if-not-take.true)
    (items_next f u (rest c.args.cursor.now) h (c.take.ensures.other c.if-not-take.true))

pub returns-clause-whole : goal.returns-clause-whole
returns-clause-whole c f u h =
    rw c.in_ok-add.ensures.before (front_next f u _ (rw (c.take.ensures.read c.if-not-take.false) at h))
