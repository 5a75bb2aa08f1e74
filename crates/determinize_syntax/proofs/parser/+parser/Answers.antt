use Rattle.determinize_syntax.proofs.Common.{◌<◌, ◌∙◌, ◌∷◌, ◌≡◌, ◌≤◌, Atom, FromAtom, IsSetting, Operator, Reads, []}
use Rattle.determinize_syntax.proofs.Common.{ap, arith, by_cases, false, length, map, meaning, refl, renamed, repeated}
use Rattle.determinize_syntax.proofs.Common.{rest, rules}
use Rattle.determinize_syntax.specs.Private.Names.{is_local}
use Rattle.determinize_syntax.specs.Spells.{no_branch, no_item, once}
use Rattle.determinize_syntax.proofs.Limits.{deep_right, group_right, local_limits, local_right, maybe, one_more}
use Rattle.determinize_syntax.proofs.Limits.{operator_left, passes_as, passes_byte, passes_none, passes_operator}
use Rattle.determinize_syntax.proofs.Limits.{passes_part, passes_then, passes_whole, right_after}
use Rattle.determinize_syntax.proofs.Rules.{again_read, branch_read, choice_read, group_read, item_read, set_read}
use Rattle.determinize_syntax.proofs.Rules.{shorter}
use Rattle.determinize_syntax.proofs.Stepping.{at_bar, group_closed, group_unclosed, operator_taken, stop_is_end}
use Rattle.determinize_syntax.proofs.parser.+parser.Goals as goal

-- a choice
pub choice-loop-branches-init : goal.choice-loop-branches-init
choice-loop-branches-init t c = (
  ([], refl, rw c.new-branches.ensures.items (no_branch c.args.flags)),
  λ k h. h,
  passes_none c.args.context.now (rest c.args.cursor.now),
)

pub choice-loop-branches-preserved : goal.choice-loop-branches-preserved
choice-loop-branches-preserved t c = (
  branch_read c.args.flags c.loop-branches.flags c.items.new.flags c.loop-branches.branches.items c.push.new.self.items
      c.sequence.result (map meaning c.in_ok-items.items.items) c.loop-branches.invariant.0 c.in_ok-items.ensures.read
      (c.take.ensures.read c.if-not-take.false) c.in_ok-push.ensures.items c.sequence.ensures,
  λ k h. at_bar k c.items.new.flags _ (rw (c.take.ensures.read c.if-not-take.false)
      at (c.in_ok-items.ensures.whole k (c.loop-branches.invariant.1 k h)).0),
  passes_byte 0x7C (passes_then c.loop-branches.invariant.2 c.in_ok-items.ensures.limits c.max-depth.ensures)
      (c.take.ensures.read c.if-not-take.false),
)

pub choice-returns-in_err-items-clause-whole : goal.choice-returns-in_err-items-clause-whole
choice-returns-in_err-items-clause-whole t c k h =
    search (rules, c.in_err-items.ensures.whole k (c.loop-branches.invariant.1 k h))

pub choice-returns-in_err-items-clause-limits : goal.choice-returns-in_err-items-clause-limits
choice-returns-in_err-items-clause-limits t c =
    search (rules, right_after c.loop-branches.invariant.2 c.in_err-items.ensures.limits)

pub choice-returns-clause-read : goal.choice-returns-clause-read
choice-returns-clause-read t c =
    rw (c.take.ensures.left c.if-not-take.true) (choice_read c.args.flags c.loop-branches.flags c.items.new.flags
    c.loop-branches.branches.items c.push.new.self.items c.sequence.result c.alternatives.result
    (map meaning c.in_ok-items.items.items) c.loop-branches.invariant.0 c.in_ok-items.ensures.read
    c.in_ok-push.ensures.items c.sequence.ensures c.alternatives.ensures)

pub choice-returns-clause-whole : goal.choice-returns-clause-whole
choice-returns-clause-whole t c k h =
    let x = c.in_ok-items.ensures.whole k (c.loop-branches.invariant.1 k h) in (
      c.items.new.flags,
      rw (c.take.ensures.left c.if-not-take.true) x.0,
      rw (c.take.ensures.left c.if-not-take.true)
          (stop_is_end (rest c.items.new.cursor) x.1 (c.take.ensures.other c.if-not-take.true)),
    )

pub choice-returns-clause-limits : goal.choice-returns-clause-limits
choice-returns-clause-limits t c =
    passes_as (rw (← c.take.ensures.left c.if-not-take.true)
    at (passes_then c.loop-branches.invariant.2 c.in_ok-items.ensures.limits c.max-depth.ensures)) (λ text h. h)

-- items
pub items-loop-cursor-init : goal.items-loop-cursor-init
items-loop-cursor-init t c = (
  ([], refl, rw c.new-items.ensures.items (no_item c.args.flags.now)),
  λ k h. h,
  passes_none c.args.context.now (rest c.args.cursor.now),
)

pub items-loop-cursor-preserved-in-Some : goal.items-loop-cursor-preserved-in-Some
items-loop-cursor-preserved-in-Some t c =
    let set : Reads c.loop-cursor.cursor c.setting.new.cursor (IsSetting c.loop-cursor.flags c.in-Some.set) =
    rw c.in-Some.is at c.in_ok-set.ensures.read in (
      set_read c.args.flags.now c.loop-cursor.flags c.in-Some.set (map meaning c.loop-cursor.items.items)
          c.loop-cursor.invariant.0 set,
      λ k h. rw c.in-Some.is at (c.in_ok-set.ensures.whole k (c.loop-cursor.invariant.1 k h)),
      passes_part c.loop-cursor.invariant.2 set,
    )

pub items-loop-cursor-preserved : goal.items-loop-cursor-preserved
items-loop-cursor-preserved t c =
    let same : c.setting.new.cursor ≡ c.loop-cursor.cursor = rw c.in_default.is at c.in_ok-set.ensures.none in (
      item_read c.args.flags.now c.loop-cursor.flags c.loop-cursor.items.items c.push.new.self.items c.in_ok-item.item
          c.loop-cursor.invariant.0 (rw same at c.in_ok-item.ensures.read) c.in_ok-push.ensures.items,
      λ k h. c.in_ok-item.ensures.whole k (rw same (by_cases
          (rw c.in_default.is at (c.in_ok-set.ensures.whole k (c.loop-cursor.invariant.1 k h)))
          (λ stop. absurd (c.is_branch_end.ensures.other c.if-is_branch_end.false stop)) (λ atom. atom))),
      passes_then c.loop-cursor.invariant.2 (rw same at c.in_ok-item.ensures.limits) c.max-depth.ensures,
    )

pub items-returns-in_err-set-clause-whole : goal.items-returns-in_err-set-clause-whole
items-returns-in_err-set-clause-whole t c k h =
    search (rules, c.in_err-set.ensures.whole k (c.loop-cursor.invariant.1 k h))

pub items-returns-in_err-set-clause-limits : goal.items-returns-in_err-set-clause-limits
items-returns-in_err-set-clause-limits t c =
    let limit = local_right c.args.levels c.args.context.now (rest c.args.cursor.now) c.in_err-set.field-0.0
    c.in_err-set.ensures.local in
    search (rules, limit)

pub items-returns-in_err-item-clause-whole : goal.items-returns-in_err-item-clause-whole
items-returns-in_err-item-clause-whole t c k h =
    let same : c.setting.new.cursor ≡ c.loop-cursor.cursor = rw c.in_default.is at c.in_ok-set.ensures.none in
    let atom : FromAtom k c.loop-cursor.flags (rest c.setting.new.cursor) =
    rw same (by_cases (rw c.in_default.is at (c.in_ok-set.ensures.whole k (c.loop-cursor.invariant.1 k h)))
    (λ stop. absurd (c.is_branch_end.ensures.other c.if-is_branch_end.false stop)) (λ atom. atom)) in
    search (rules, c.in_err-item.ensures.whole k atom)

pub items-returns-in_err-item-clause-limits : goal.items-returns-in_err-item-clause-limits
items-returns-in_err-item-clause-limits t c =
    let same : c.setting.new.cursor ≡ c.loop-cursor.cursor = rw c.in_default.is at c.in_ok-set.ensures.none in
    search (rules, right_after c.loop-cursor.invariant.2 (rw same at c.in_err-item.ensures.limits))

pub items-returns-clause-whole : goal.items-returns-clause-whole
items-returns-clause-whole t c k h =
    (c.loop-cursor.invariant.1 k h, c.is_branch_end.ensures.end c.if-is_branch_end.true)

pub items-returns-clause-limits : goal.items-returns-clause-limits
items-returns-clause-limits t c = passes_as c.loop-cursor.invariant.2 (λ text h. h)

-- an atom and its operators
pub repeated-loop-bounds-init : goal.repeated-loop-bounds-init
repeated-loop-bounds-init t c = (
  renamed (Atom c.args.flags (meaning c.in_ok-pattern.pattern)) _ c.in_ok-pattern.ensures.read
      (λ v h. (false, once c.args.flags (meaning c.in_ok-pattern.pattern) v h, λ e. absurd (cc))),
  c.in_ok-pattern.ensures.progress,
  λ k h. (false, c.in_ok-pattern.ensures.whole k h),
  c.in_ok-pattern.ensures.limits,
)

pub repeated-loop-bounds-preserved : goal.repeated-loop-bounds-preserved
repeated-loop-bounds-preserved t c =
    let b = c.in-Some.bounds in
    let read : Reads c.loop-bounds.cursor c.operator.new.cursor (Operator b.min b.max) =
    rw c.in-Some.is at c.in_ok-bounds.ensures.read in
    let less : length (rest c.operator.new.cursor) < length (rest c.loop-bounds.cursor) =
    rw c.in-Some.is at c.in_ok-bounds.ensures.progress in
    let short : length (rest c.take.new.self) ≤ length (rest c.operator.new.cursor) =
    shorter (rest c.operator.new.cursor) (rest c.take.new.self) c.take.result c.take.ensures.read
    (λ e. ap rest (c.take.ensures.left e)) in
    let before : length (rest c.loop-bounds.cursor) < length (rest c.args.cursor.now) = c.loop-bounds.invariant.1 in
    let re = meaning c.loop-bounds.pattern in (
      again_read (rest c.args.cursor.now) (rest c.loop-bounds.cursor) (rest c.operator.new.cursor)
          (rest c.take.new.self) c.args.flags re (meaning c.in_ok-pattern-2.pattern) b.min b.max c.take.result
          c.loop-bounds.invariant.0 read c.take.ensures.read (λ e. ap rest (c.take.ensures.left e)) c.take.ensures.other
          (c.in_ok-pattern-2.ensures ∙ ap (λ x. repeated b.min b.max x re) c.is_greedy-greedy.ensures),
      omega arith,
      λ k h. let x = c.loop-bounds.invariant.2 k h in
          operator_taken k c.args.flags (rest c.operator.new.cursor) (rest c.take.new.self)
          (rw c.in-Some.is at (c.in_ok-bounds.ensures.whole k c.args.flags x.0 x.1)) c.take.result c.take.ensures.read
          (λ e. ap rest (c.take.ensures.left e)) c.take.ensures.other,
      passes_part (passes_operator b.min b.max c.loop-bounds.invariant.3 read (λ text h. h))
          (maybe 0x3F c.take.result c.take.ensures.read (λ e. ap rest (c.take.ensures.left e))),
    )

pub repeated-returns-in_err-bounds-clause-whole : goal.repeated-returns-in_err-bounds-clause-whole
repeated-returns-in_err-bounds-clause-whole t c k h =
    let x = c.loop-bounds.invariant.2 k h in
    search (rules, c.in_err-bounds.ensures.whole k c.args.flags x.0 x.1)

pub repeated-returns-in_err-bounds-clause-limits : goal.repeated-returns-in_err-bounds-clause-limits
repeated-returns-in_err-bounds-clause-limits t c =
    let limit = local_right c.args.levels c.args.context.now (rest c.args.cursor.now) c.in_err-bounds.field-0.0
    c.in_err-bounds.ensures.local in
    search (rules, limit)

pub repeated-returns-then-context-ge-NEST_LIMIT-clause-limits :
    goal.repeated-returns-then-context-ge-NEST_LIMIT-clause-limits
repeated-returns-then-context-ge-NEST_LIMIT-clause-limits t c =
    let b = c.in-Some.bounds in
    let read : Reads c.loop-bounds.cursor c.operator.new.cursor (Operator b.min b.max) =
    rw c.in-Some.is at c.in_ok-bounds.ensures.read in
    deep_right c.at.ensures (λ few. (let deep = c.loop-bounds.invariant.3.deep in
    omega (arith, deep, operator_left b.min b.max read, few, c.if-context-ge-NEST_LIMIT.true)))

pub repeated-returns-clause-whole : goal.repeated-returns-clause-whole
repeated-returns-clause-whole t c k h =
    let x = c.loop-bounds.invariant.2 k h in
    rw c.in_default.is at (c.in_ok-bounds.ensures.whole k c.args.flags x.0 x.1)

pub repeated-returns-clause-limits : goal.repeated-returns-clause-limits
repeated-returns-clause-limits t c =
    let same : c.operator.new.cursor ≡ c.loop-bounds.cursor = rw c.in_default.is at c.in_ok-bounds.ensures.none in
    rw same c.loop-bounds.invariant.3

-- an atom
pub atom-returns-then-take-clause-whole : goal.atom-returns-then-take-clause-whole
atom-returns-then-take-clause-whole t c k h = c.group.ensures.whole k (rw (c.take.ensures.read c.if-take.true) at h)

pub atom-returns-then-take-clause-limits : goal.atom-returns-then-take-clause-limits
atom-returns-then-take-clause-limits t c = rw (c.take.ensures.read c.if-take.true) c.group.ensures.limits

pub atom-returns-clause-whole : goal.atom-returns-clause-whole
atom-returns-clause-whole t c k h =
    let same = c.take.ensures.left c.if-take.false in
    c.single.ensures.whole k (rw same h) (rw same (c.take.ensures.other c.if-take.false))

pub atom-returns-clause-limits : goal.atom-returns-clause-limits
atom-returns-clause-limits t c =
    rw (← c.take.ensures.left c.if-take.false) (local_limits _ _ _ c.args.levels _ _ c.single.result
    c.single.ensures.read c.single.ensures.local (λ text h. h))

-- a group
pub group-returns-clause-read : goal.group-returns-clause-read
group-returns-clause-read t c =
    rw c.in_ok-grouped.ensures (group_read c.args.flags c.in_ok-opening.opening.flags (meaning c.in_ok-sub.sub)
    c.in_ok-opening.ensures.read c.in_ok-sub.ensures.read (c.take.ensures.read c.if-not-take.false))

pub group-returns-then-not-take-clause-whole : goal.group-returns-then-not-take-clause-whole
group-returns-then-not-take-clause-whole t c k h =
    let x = c.in_ok-sub.ensures.whole (c.args.flags ∷ k) (c.in_ok-opening.ensures.whole k h) in
    group_unclosed k c.args.flags x.0 (rest c.choice.new.cursor) x.1 x.2 (c.take.ensures.other c.if-not-take.true)

pub group-returns-in_err-sub-clause-whole : goal.group-returns-in_err-sub-clause-whole
group-returns-in_err-sub-clause-whole t c k h =
    search (rules, c.in_err-sub.ensures.whole (c.args.flags ∷ k) (c.in_ok-opening.ensures.whole k h))

pub group-returns-clause-whole : goal.group-returns-clause-whole
group-returns-clause-whole t c k h =
    let x = c.in_ok-sub.ensures.whole (c.args.flags ∷ k) (c.in_ok-opening.ensures.whole k h) in
    group_closed k c.args.flags x.0 _ (rw (c.take.ensures.read c.if-not-take.false) at x.1)

pub group-returns-in_err-opening-clause-limits : goal.group-returns-in_err-opening-clause-limits
group-returns-in_err-opening-clause-limits t c =
    let limit = right_after (passes_byte 0x28 (passes_none c.args.context.now (0x28 ∷ rest c.args.cursor.now)) refl)
    (c.in_err-opening.ensures.limits c.args.levels) in
    search (rules, limit)

pub group-returns-then-levels-eq0-clause-limits : goal.group-returns-then-levels-eq0-clause-limits
group-returns-then-levels-eq0-clause-limits t c =
    deep_right c.at.ensures (λ few. omega (arith, c.if-levels-eq0.true, one_more 0x28 (rest c.args.cursor.now) refl))

pub group-returns-then-not-take-clause-limits : goal.group-returns-then-not-take-clause-limits
group-returns-then-not-take-clause-limits t c =
    local_right _ _ _ c.at-then-not-take.result (ap is_local c.at-then-not-take.ensures)

pub group-returns-in_err-sub-clause-limits : goal.group-returns-in_err-sub-clause-limits
group-returns-in_err-sub-clause-limits t c =
    search (rules, group_right (c.in_ok-opening.ensures.limits 0) c.in_err-sub.ensures.limits)

pub group-returns-then-context-ge-NEST_LIMIT-clause-limits : goal.group-returns-then-context-ge-NEST_LIMIT-clause-limits
group-returns-then-context-ge-NEST_LIMIT-clause-limits t c =
    deep_right c.at-then-context-ge-NEST_LIMIT.ensures (λ few. (let opening = (c.in_ok-opening.ensures.limits 0).deep in
    let sub = c.in_ok-sub.ensures.limits.deep in
    omega (arith, few, opening, sub, c.if-context-ge-NEST_LIMIT.true, one_more 0x28 (rest c.args.cursor.now) refl)))

pub group-returns-clause-limits : goal.group-returns-clause-limits
group-returns-clause-limits t c = passes_whole (c.in_ok-opening.ensures.limits 0) c.in_ok-sub.ensures.limits
    (c.take.ensures.read c.if-not-take.false) (λ text h. h)
