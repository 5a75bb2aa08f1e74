use Rattle.determinize_syntax.proofs.Common.{◌∙◌, [], ap, at_end, char_pairs, not, refl, rest, sym}
use Rattle.determinize_syntax.specs.declared.bracket.Before.TheVariants.{First}
use Rattle.determinize_syntax.proofs.Listing.{hyphen_listed, hyphens_listed}
use Rattle.determinize_syntax.proofs.Nexts.{hyphen_next, not_ended}
use Rattle.determinize_syntax.proofs.Rules.{none_of}
use Rattle.determinize_syntax.proofs.bracket.Items.hyphen.Goals as goal

pub returns-in_ok-add-in-First-clause-read : goal.returns-in_ok-add-in-First-clause-read
returns-in_ok-add-in-First-clause-read c = (
  [],
  refl,
  rw (c.in-First.is, c.in_ok-add-in-First.ensures.before) (hyphens_listed c.args.flags
      (char_pairs c.args.self.now.ranges.items) (char_pairs c.add.new.self.ranges.items)
      c.in_ok-add-in-First.ensures.ranges),
)

pub returns-in_ok-add-in-AfterRange-clause-read : goal.returns-in_ok-add-in-AfterRange-clause-read
returns-in_ok-add-in-AfterRange-clause-read c = (
  [],
  refl,
  rw (c.in-AfterRange.is, c.in_ok-add-in-AfterRange.ensures.before) (hyphen_listed c.args.flags
      (char_pairs c.args.self.now.ranges.items) (char_pairs c.add-in-AfterRange.new.self.ranges.items)
      c.in_ok-add-in-AfterRange.ensures.ranges),
)

pub returns-in-AfterOne-clause-read : goal.returns-in-AfterOne-clause-read
returns-in-AfterOne-clause-read c = rw c.in-AfterOne.is (c.range.ensures.read c.in-AfterOne.field-0)

pub returns-in_ok-add-in-First-clause-whole : goal.returns-in_ok-add-in-First-clause-whole
returns-in_ok-add-in-First-clause-whole c u h =
    rw c.in_ok-add-in-First.ensures.before (rw c.in-First.is at (hyphen_next c.args.flags u c.args.self.now.before _ h))

pub returns-in_ok-add-in-AfterRange-clause-whole : goal.returns-in_ok-add-in-AfterRange-clause-whole
returns-in_ok-add-in-AfterRange-clause-whole c u h =
    rw c.in_ok-add-in-AfterRange.ensures.before
    (rw c.in-AfterRange.is at (hyphen_next c.args.flags u c.args.self.now.before _ h))

pub returns-in-AfterHyphen-clause-whole : goal.returns-in-AfterHyphen-clause-whole
returns-in-AfterHyphen-clause-whole c u h =
    absurd (rw c.in-AfterHyphen.is at (hyphen_next c.args.flags u c.args.self.now.before _ h))

pub returns-in-AfterClass-clause-whole : goal.returns-in-AfterClass-clause-whole
returns-in-AfterClass-clause-whole c u h =
    absurd (rw c.in-AfterClass.is at (hyphen_next c.args.flags u c.args.self.now.before _ h))

pub returns-in-AfterOne-clause-whole : goal.returns-in-AfterOne-clause-whole
returns-in-AfterOne-clause-whole c u h = c.range.ensures.whole c.in-AfterOne.field-0 u (rw c.in-AfterOne.is at h)

pub returns-then-is_none-clause-whole : goal.returns-then-is_none-clause-whole
returns-then-is_none-clause-whole c u h =
    not_ended c.args.flags u First (rw (at_end (rest c.args.cursor.now) (sym c.peek.ensures
    ∙ none_of c.peek.result (c.is_none.ensures ∙ ap not c.if-is_none.true)))
    at (rw c.in-First.is at (hyphen_next c.args.flags u c.args.self.now.before _ h)))
