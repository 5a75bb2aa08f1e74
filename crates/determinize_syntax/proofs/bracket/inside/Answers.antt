use Rattle.determinize_syntax.proofs.Common.{◌∙◌, ◌∷◌, ◌≡◌, Bytes, Flags, IsNotAt, Item, Listing, Part, ap, char_pairs}
use Rattle.determinize_syntax.proofs.Common.{may_end, rest, rules, sym, true}
use Rattle.determinize_syntax.specs.declared.bracket.Items.{Items}
use Rattle.determinize_syntax.specs.declared.cursor.Cursor.{Cursor}
use Rattle.determinize_syntax.proofs.Listing.{Begun, begun_more, inside_closed, inside_hyphen}
use Rattle.determinize_syntax.proofs.Nexts.{closed_by, ended_by, item_next}
use Rattle.determinize_syntax.proofs.bracket.inside.Goals as goal

-- the brackets do not end here
item_here : (f : Flags) (u : Bytes) (old new : Items) (from here end : Cursor) → here ≡ from → end ≡ here → new ≡ old
    → Listing f u old.before (rest from) → IsNotAt 0x5D from
    → (may_end old.before ≡ true → (w : Bytes) → rest here ≡ 0x2D ∷ 0x5D ∷ w → ⊥) → Item f u new.before (rest end)
item_here f u old new from here end e1 e2 e3 listing other more =
    rw (e3, e2, e1) (item_next f u old.before (rest from) listing other (rw e1 at more))

pub loop-alloc-init : goal.loop-alloc-init
loop-alloc-init c = (c.in_ok-items.ensures.read c.args.flags, λ u h known. c.in_ok-items.ensures.whole c.args.flags u h)

pub loop-alloc-preserved : goal.loop-alloc-preserved
loop-alloc-preserved c =
    let f = c.args.flags in
    let left = c.in_ok-ends_with_hyphen.ensures.left c.if-branch.false in
    let begun : Part (rest c.args.cursor.now) (rest c.ends_with_hyphen.new.cursor)
    (Begun f c.ends_with_hyphen.new.self.before (char_pairs c.ends_with_hyphen.new.self.ranges.items)
    (rest c.ends_with_hyphen.new.cursor)) =
    rw (left.0, c.take.ensures.left c.if-take.false, left.1) c.loop-alloc.invariant.0 in (
      begun_more f _ c.item.new.self.before _ (char_pairs c.item.new.self.ranges.items) begun
          c.in_ok-item.ensures.read c.in_ok-item.ensures.progress,
      λ u h known. c.in_ok-item.ensures.whole u (item_here f u c.loop-alloc.items _ c.loop-alloc.cursor _ _
          (c.take.ensures.left c.if-take.false) left.0 left.1 (c.loop-alloc.invariant.1 u h known)
          (c.take.ensures.other c.if-take.false) (c.in_ok-ends_with_hyphen.ensures.other c.if-branch.false)) known,
    )

pub returns-in_err-item-clause-whole : goal.returns-in_err-item-clause-whole
returns-in_err-item-clause-whole c u h known =
    let left = c.in_ok-ends_with_hyphen.ensures.left c.if-branch.false in
    let limit = c.in_err-item.ensures.whole u (item_here c.args.flags u c.loop-alloc.items _ c.loop-alloc.cursor _ _
    (c.take.ensures.left c.if-take.false) left.0 left.1 (c.loop-alloc.invariant.1 u h known)
    (c.take.ensures.other c.if-take.false) (c.in_ok-ends_with_hyphen.ensures.other c.if-branch.false)) known in
    search (rules, limit)

pub returns-then-take-clause-whole : goal.returns-then-take-clause-whole
returns-then-take-clause-whole c u h known =
    closed_by c.args.flags u c.loop-alloc.items.before _
    (rw (c.take.ensures.read c.if-take.true) at (c.loop-alloc.invariant.1 u h known))

pub returns-then-branch-clause-whole : goal.returns-then-branch-clause-whole
returns-then-branch-clause-whole c u h known =
    let y = c.in_ok-ends_with_hyphen.ensures.read c.if-branch.true in
    ended_by c.args.flags u c.loop-alloc.items.before _
    (rw (ap rest (sym (c.take.ensures.left c.if-take.false)) ∙ y.1) at (c.loop-alloc.invariant.1 u h known)) y.0

pub returns-then-take-clause-read : goal.returns-then-take-clause-read
returns-then-take-clause-read c = inside_closed c.args.flags c.loop-alloc.items.before
    (char_pairs c.loop-alloc.items.ranges.items) c.loop-alloc.invariant.0 (c.take.ensures.read c.if-take.true)

pub returns-then-branch-clause-read : goal.returns-then-branch-clause-read
returns-then-branch-clause-read c =
    let x = c.in_ok-ends_with_hyphen.ensures.read c.if-branch.true in
    inside_hyphen c.args.flags c.loop-alloc.items.before (char_pairs c.loop-alloc.items.ranges.items)
    (char_pairs c.ends_with_hyphen.new.self.ranges.items) c.loop-alloc.invariant.0
    (ap rest (sym (c.take.ensures.left c.if-take.false)) ∙ x.1) x.0 x.2
