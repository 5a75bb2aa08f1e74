use Rattle.std.proofs.Common.{add-one, ◌≡◌, ◌+◌, ◌-◌, ◌<◌, ◌∙◌, ◌∷◌, ap, arith, false, drop, inl, inr, length, map, refl, replicate, slice_index, sym}
use Rattle.std.proofs.lemmas.Grind.{common_steps, get_or_default_zero}
use Rattle.std.proofs.lemmas.List.{drop_all, drop_more, get_or_read, take_all, take_rest}
use Rattle.std.proofs.lemmas.Result.{IfOk-weaker, on_ok_weaker}
use Rattle.determinize_pattern.specs.Patterns.{meaning}
use Rattle.determinize_pattern.proofs.compiled.FirstClasses.{class_rest, first_len, read_begun, read_more, row_rest}
use Rattle.determinize_pattern.proofs.compiled.Heads.{head_made, heads_begun, heads_more, heads_none, none_head, word_head}
use Rattle.determinize_pattern.proofs.compiled.Looping.{again_begun, first_two, nested_compiled, plus_compiled, set_first}
use Rattle.determinize_pattern.proofs.compiled.Compiling.{begun_of, choice_compiled, compiled_after, empty_compiled, later_compiled, look_compiled, nothing_compiled, on_both, one_compiled, only_compiled, optional_compiled, precedes_more, precedes_none, repeated_some, then_compiled, unread_kept}
use Rattle.determinize_pattern.proofs.compiled.Growing.{less_left, map_take_more}
use Rattle.determinize_pattern.proofs.compiled.Patterns.{meaning_class, meaning_concat, meaning_empty, meaning_literal, meaning_look}
use Rattle.determinize_pattern.proofs.entries.Ends.{lt_false, lt_true}
use Rattle.ordered_reach.proofs.Cases.{by_cases}
use Rattle.determinize_pattern.specs.Private.FirstClasses.{AreFirst}
use Rattle.determinize_pattern.proofs.compiler.Compiler.+part.Goals as goal

pub part-returns-then-always_reads-clause-compiled : goal.part-returns-then-always_reads-clause-compiled
part-returns-then-always_reads-clause-compiled g t c =
    let first : c.index-ids-0.result ≡ slice_index c.args.ids.now 0
    = get_or_read c.args.ids.now 0 _ c.requires c.index-ids-0.is 0 in
    let node = rw first at c.in_ok-node.ensures.compiled in
    compiled_after _ _ _ _ _ _ _ c.spend.ensures.kept
    (one_compiled _ _ _ _ _ _ _ (c.always_reads.ensures c.if-always_reads.true) (begun_of _ _ _ _ _ node)
    (rw (get_or_default_zero c.node.new.ids 0 c.index-only-0.result (omega (arith, c.in_ok-node.ensures.compiled.len)))
    at c.set_each.ensures))

pub part-returns-then-always_reads-clause-charged : goal.part-returns-then-always_reads-clause-charged
part-returns-then-always_reads-clause-charged g t c =
    let node = c.in_ok-node.ensures in
    omega (arith, c.in_ok-spend.ensures.spent, less_left _ _ _ _ node.compiled.extends node.paid)

pub part-returns-clause-charged : goal.part-returns-clause-charged
part-returns-clause-charged g t c = on_both c.node-2.result c.node-2.ensures.compiled c.node-2.ensures.paid
    (λ compiled paid. omega (arith, c.in_ok-spend.ensures.spent, less_left _ _ _ _ compiled.extends paid))

pub node-returns-in-Empty-clause-compiled : goal.node-returns-in-Empty-clause-compiled
node-returns-in-Empty-clause-compiled g t c = rw (c.in-Empty.is, meaning_empty) (empty_compiled _ _ _)

pub node-returns-in-Literal-clause-compiled : goal.node-returns-in-Literal-clause-compiled
node-returns-in-Literal-clause-compiled g t c =
    on_ok_weaker c.literal.result
    (λ h. rw (c.in-Literal.is, meaning_literal)
    (later_compiled 0 _ _ _ _ _ _ (omega arith) (rw c.deref.ensures.value at h)))
    c.literal.ensures.compiled

pub node-returns-in-Class-clause-compiled : goal.node-returns-in-Class-clause-compiled
node-returns-in-Class-clause-compiled g t c =
    on_ok_weaker c.class.result
    (λ h. rw (c.in-Class.is, meaning_class) (later_compiled 0 _ _ _ _ _ _ (omega arith) h)) c.class.ensures.compiled

pub node-returns-in-Look-clause-compiled : goal.node-returns-in-Look-clause-compiled
node-returns-in-Look-clause-compiled g t c =
    on_ok_weaker c.look_each.result
    (λ each. rw (c.in-Look.is, meaning_look) (look_compiled _ _ _ _ _ _ each)) c.look_each.ensures.added

pub concat-loop-i-init : goal.concat-loop-i-init
concat-loop-i-init g t c = (
  rw (drop_all (length c.args.subs.now) c.args.subs.now (omega arith)) (empty_compiled _ _ _),
  omega arith,
  c.requires.within,
)

pub concat-loop-i-preserved : goal.concat-loop-i-preserved
concat-loop-i-preserved g t c =
    let i = c.loop-i.i in
    let back : i - 1 + 1 ≡ i = omega arith in
    let behind = rw (lt_true c.args.from i (omega arith)) at c.loop-i.invariant.0 in
    let sub = c.index-subs-i.result in (
      rw (drop_more c.args.subs.now (i - 1) sub (omega arith), back, ← c.index-subs-i.is)
          (then_compiled _ _ _ _ _ _ _ _ _ c.requires.some behind
          (rw c.wanted.ensures at c.in_ok-part.ensures.compiled)),
      omega (arith, c.loop-i.invariant.1, c.in_ok-part.ensures.paid),
      omega arith,
    )

pub choices-loop-i-init : goal.choices-loop-i-init
choices-loop-i-init g t c =
    let filled : c.set_each.new.ids ≡ replicate (length c.args.targets.now) c.in_ok-fail.fail
    = rw c.requires.targets c.set_each.ensures in (
      rw (drop_all (length c.args.subs.now) c.args.subs.now (omega arith))
          (nothing_compiled _ _ _ c.args.targets.now _ _ c.in_ok-fail.ensures.id c.in_ok-fail.ensures.added filled),
      c.requires.branch,
      omega (arith, c.in_ok-fail.ensures.paid),
    )

pub choices-loop-i-preserved : goal.choices-loop-i-preserved
choices-loop-i-preserved g t c =
    let i = c.loop-i.i in
    let back : i - 1 + 1 ≡ i = omega arith in
    let sub = c.index-subs-i.result in (
      rw (drop_more c.args.subs.now (i - 1) sub (omega arith), back, ← c.index-subs-i.is)
          (choice_compiled false _ _ _ _ _ _ _ _ _ _ _ c.loop-i.invariant.0
          (rw c.copy_from_slice.ensures.after at c.in_ok-part.ensures.compiled) c.in_ok-choose_each.ensures.added),
      c.in_ok-part.ensures.compiled.len ∙ ap length c.copy_from_slice.ensures.after,
      omega (arith, c.loop-i.invariant.2, c.in_ok-part.ensures.paid, c.in_ok-choose_each.ensures.paid),
    )

pub alternation-returns-then-ids-eq1-clause-compiled : goal.alternation-returns-then-ids-eq1-clause-compiled
alternation-returns-then-ids-eq1-clause-compiled g t c =
    let first : c.index-ids-0.result ≡ slice_index c.args.ids.now 0
    = get_or_read c.args.ids.now 0 _ c.requires c.index-ids-0.is 0 in
    only_compiled _ _ _ _ c.args.ids.now c.args.ids.now _ c.if-ids-eq1.true refl (rw first at c.in_ok-ids.ensures.begun)

pub branches-loop-i-init : goal.branches-loop-i-init
branches-loop-i-init g t c = (rw c.new-words.ensures.items (heads_none _ _), omega arith)

pub branches-loop-i-preserved : goal.branches-loop-i-preserved
branches-loop-i-preserved g t c = (
  rw (
    map_take_more meaning c.args.subs.now c.loop-i.i c.index-subs-i.result (omega arith) c.index-subs-i.is,
    c.in_ok-push.ensures.items,
  )
      (heads_more _ _ _ _ _ _ _ _ c.loop-i.invariant.0 c.in_ok-word.ensures.head),
  omega (arith, c.loop-i.invariant.1, c.in_ok-word.ensures.paid),
)

pub branches-returns-clause-begun : goal.branches-returns-clause-begun
branches-returns-clause-begun g t c = IfOk-weaker c.words.result _ _
    (λ s h. heads_begun _ _ _ (map meaning c.args.subs.now) _ _ s
    (rw (take_all c.loop-i.i c.args.subs.now (omega arith)) at c.loop-i.invariant.0) (rw c.deref-2.ensures.value at h))
    c.words.ensures.tree

pub by_class-loop-i-preserved : goal.by_class-loop-i-preserved
by_class-loop-i-preserved g t c =
    let i = c.loop-i.i in
    let sub = c.index-subs-i.result in
    let class = c.index-classes-i.result in
    let low = c.loop-i.invariant.0.0 in
    let within : i < length c.args.classes.now = omega (arith, first_len 0 _ _ c.requires) in
    let first : AreFirst low (sub ∷ drop (i + 1) c.args.subs.now) (class ∷ drop (i + 1) c.args.classes.now) =
    rw (
      drop_more c.args.subs.now i sub (omega arith),
      ← c.index-subs-i.is,
      drop_more c.args.classes.now i class within,
      ← c.index-classes-i.is,
    ) at c.loop-i.invariant.0.2 in (
      (
        first.0,
        rw (
          map_take_more meaning c.args.subs.now i sub (omega arith) c.index-subs-i.is,
          c.in_ok-extend_from_slice.ensures.items,
          c.deref.ensures.value,
          c.in_ok-leading.ensures,
          c.ranges-in-loop-i.ensures,
        )
            (read_more _ _ _ _ _ _ _ _ _ _ _ c.loop-i.invariant.0.1 (c.in_ok-target.ensures.rest class.now first.1)
            first.2),
        first.3,
      ),
      omega (arith, c.loop-i.invariant.1, c.in_ok-target.ensures.paid),
    )

pub by_class-returns-clause-begun : goal.by_class-returns-clause-begun
by_class-returns-clause-begun g t c =
    let kept = c.spend.ensures.kept in
    read_begun _ _ _ (map meaning c.args.subs.now) _ _ c.loop-i.transitions.items _
    (rw (take_all c.loop-i.i c.args.subs.now (omega arith)) at c.loop-i.invariant.0.1)
    (rw kept at c.in_ok-add_sparse.ensures.id) (rw (kept, c.deref-2.ensures.value) at c.in_ok-add_sparse.ensures.added)

pub after_first-returns-in_ok-concat-in-Concat-clause-rest : goal.after_first-returns-in_ok-concat-in-Concat-clause-rest
after_first-returns-in_ok-concat-in-Concat-clause-rest g t c class first =
    let subs = c.in-Concat.subs in
    let compiled = rw c.deref.ensures.value at c.in_ok-concat-in-Concat.ensures.compiled in
    let entry = get_or_default_zero c.concat.new.ids 0 c.index-ids-0.result (omega (arith, compiled.len)) in
    rw entry (row_rest _ _ subs.items c.min.result (meaning c.args.pattern.now) class _ _ (grind (arith, common_steps))
    (begun_of _ _ _ _ _ compiled) (ap meaning c.in-Concat.is ∙ meaning_concat subs)
    (by_cases first (λ k. inl (ap meaning k ∙ meaning_class class)) (λ k. inr (k.1, k.3))))

pub after_first-returns-in_default : goal.after_first-returns-in_default
after_first-returns-in_default g t c = record {
  rest = λ class first. by_cases first
      (λ k. class_rest _ (meaning c.args.pattern.now) class c.args.next (ap meaning k ∙ meaning_class class))
      (λ k. absurd (c.in_default.not-Concat k.0 k.2));
  paid = omega arith;
}

pub head_of_all-returns-clause-head : goal.head_of_all-returns-clause-head
head_of_all-returns-clause-head g t c =
    let entry = get_or_default_zero c.concat.new.ids 0 c.index-ids-0.result
    (omega (arith, c.in_ok-concat.ensures.compiled.len)) in
    rw (c.new.ensures, entry) (head_made _ _ _ _ _ _ _ (begun_of _ _ _ _ _ c.in_ok-concat.ensures.compiled)
    (rw c.new-bytes.ensures.items at c.in_ok-count.ensures.same))

pub head_of_one-returns-then-is_word-clause-head : goal.head_of_one-returns-then-is_word-clause-head
head_of_one-returns-then-is_word-clause-head g t c =
    let pushed = rw (c.if-is_word.true, c.new-bytes.ensures.items) at c.in_ok-is_word.ensures in
    rw c.new.ensures (word_head _ _ _ _ pushed.0 pushed.1 pushed.2)

pub head_of_one-returns-clause-head : goal.head_of_one-returns-clause-head
head_of_one-returns-clause-head g t c =
    let none = rw (c.if-is_word.false, c.new-bytes.ensures.items) at c.in_ok-is_word.ensures in
    let entry = get_or_default_zero c.node.new.ids 0 c.index-ids-0.result
    (omega (arith, c.in_ok-node.ensures.compiled.len)) in
    rw (c.new-2.ensures, entry) (none_head _ _ _ _ _ _ none (begun_of _ _ _ _ _ c.in_ok-node.ensures.compiled))

round : (g : _) (t : _) (c : goal.plus-After-drop-body-2 g t) → c.index.result.now ≡ slice_index c.part-2.new.ids 1
round g t c = grind (arith, common_steps)

pub plus-returns-clause-compiled : goal.plus-returns-clause-compiled
plus-returns-clause-compiled g t c =
    let targets : c.deref_mut.result.now ≡ c.in_ok-again.again ∷ c.in_ok-unread.unread ∷ c.args.ids.now
    = rw c.deref_mut.ensures.value c.in_ok-body.ensures in
    let entries : c.deref.result.now ≡ c.part-2.new.ids = grind (arith, common_steps) in
    let next : c.index-ids-0.result ≡ slice_index c.args.ids.now 0
    = get_or_read c.args.ids.now 0 _ c.requires c.index-ids-0.is 0 in
    plus_compiled c.args.greedy _ _ _ _ _ _ c.args.ids.now _ _ _ _ c.in_ok-again.ensures.id
    c.in_ok-again.ensures.added c.in_ok-unread.ensures.unread (rw targets at c.in_ok-part-2.ensures.compiled)
    (rw (round g t c) at c.in_ok-close-2.ensures.closed) _ _ _ refl next
    (c.copy_from_slice.ensures.after ∙ take_rest _ 2 ∙ ap (drop 2) entries)

pub plus-returns-clause-again : goal.plus-returns-clause-again
plus-returns-clause-again g t c =
    let targets : c.deref_mut.result.now ≡ c.in_ok-again.again ∷ c.in_ok-unread.unread ∷ c.args.ids.now
    = rw c.deref_mut.ensures.value c.in_ok-body.ensures in
    let next : c.index-ids-0.result ≡ slice_index c.args.ids.now 0
    = get_or_read c.args.ids.now 0 _ c.requires c.index-ids-0.is 0 in
    rw (sym next) (again_begun c.args.greedy _ _ _ _ _ _ c.args.ids.now _ _ _ _ c.in_ok-again.ensures.id
    c.in_ok-again.ensures.added c.in_ok-unread.ensures.unread (rw targets at c.in_ok-part-2.ensures.compiled)
    (rw (round g t c) at c.in_ok-close-2.ensures.closed))

pub plus-returns-then-fails_unread-clause-compiled : goal.plus-returns-then-fails_unread-clause-compiled
plus-returns-then-fails_unread-clause-compiled g t c =
    let nested = c.fails_unread.ensures c.if-fails_unread.true in
    let next : c.index-ids-0.result ≡ slice_index c.args.ids.now 0
    = get_or_read c.args.ids.now 0 _ c.requires c.index-ids-0.is 0 in
    let body = rw (set_first c.args.ids.now c.in_ok-again.again nested.some) at c.in_ok-part.ensures.compiled in
    let later : c.index-ids-1.result ≡ slice_index c.part.new.ids 1
    = get_or_read c.part.new.ids 1 _ (omega (arith, body.len)) c.index-ids-1.is 0 in
    nested_compiled c.args.greedy _ _ _ _ _ _ _ _ _ _ _ c.in_ok-again.ensures.id c.in_ok-again.ensures.added
    (unread_kept _ _ _ nested.fails) body (rw later at c.in_ok-close.ensures.closed) _ c.args.ids.now nested.later
    (first_two c.args.ids.now _ nested.some next)

pub plus-returns-then-fails_unread-clause-again : goal.plus-returns-then-fails_unread-clause-again
plus-returns-then-fails_unread-clause-again g t c =
    let nested = c.fails_unread.ensures c.if-fails_unread.true in
    let next : c.index-ids-0.result ≡ slice_index c.args.ids.now 0
    = get_or_read c.args.ids.now 0 _ c.requires c.index-ids-0.is 0 in
    let body = rw (set_first c.args.ids.now c.in_ok-again.again nested.some) at c.in_ok-part.ensures.compiled in
    let later : c.index-ids-1.result ≡ slice_index c.part.new.ids 1
    = get_or_read c.part.new.ids 1 _ (omega (arith, body.len)) c.index-ids-1.is 0 in
    rw (sym next) (again_begun c.args.greedy _ _ _ _ _ _ _ _ _ _ _ c.in_ok-again.ensures.id
    c.in_ok-again.ensures.added (unread_kept _ _ _ nested.fails) body (rw later at c.in_ok-close.ensures.closed))

pub copies-loop-done-init : goal.copies-loop-done-init
copies-loop-done-init g t c = (precedes_none _ _ (meaning c.args.sub.now) _, c.requires, omega arith)

pub copies-loop-done-preserved : goal.copies-loop-done-preserved
copies-loop-done-preserved g t c = (
  rw add-one (precedes_more _ _ _ _ _ _ _ _ _ _
      (rw (lt_true c.loop-done.done c.args.count (omega arith)) at c.loop-done.invariant.0)
      (rw (c.wanted.ensures, add-one) at c.in_ok-part.ensures.compiled)),
  omega (arith, c.loop-done.invariant.1, c.in_ok-part.ensures.compiled.len),
  omega (arith, c.loop-done.invariant.2, c.in_ok-part.ensures.paid),
)

pub copies-returns-clause-front : goal.copies-returns-clause-front
copies-returns-clause-front g t c =
    let all : c.loop-done.done ≡ c.args.count = omega arith in
    rw (all, lt_false c.args.count c.args.count refl) at c.loop-done.invariant.0

pub up_to-loop-done-init : goal.up_to-loop-done-init
up_to-loop-done-init g t c = (empty_compiled _ _ _, omega arith)

pub up_to-loop-done-preserved : goal.up_to-loop-done-preserved
up_to-loop-done-preserved g t c = (
  rw add-one (optional_compiled c.args.greedy _ _ _ _ _ _ _ _ _
      (c.deref.ensures.value ∙ c.in_ok-targets.ensures.items)
      (then_compiled _ _ _ _ _ _ _ _ _ c.requires
      (rw (lt_true c.loop-done.done c.args.count (omega arith)) at c.loop-done.invariant.0)
      (rw (c.wanted-behind.ensures, add-one) at c.in_ok-part.ensures.compiled))
      (rw (c.wanted-behind.ensures, add-one) at c.in_ok-choose_each.ensures.added)),
  omega (arith, c.loop-done.invariant.1, c.in_ok-part.ensures.paid, c.in_ok-choose_each.ensures.paid),
)

pub up_to-returns-clause-compiled : goal.up_to-returns-clause-compiled
up_to-returns-clause-compiled g t c =
    let all : c.loop-done.done ≡ c.args.count = omega arith in
    rw (all, lt_false c.args.count c.args.count refl) at c.loop-done.invariant.0

pub star-returns-clause-compiled : goal.star-returns-clause-compiled
star-returns-clause-compiled g t c =
    on_ok_weaker c.choose_each.result
    (optional_compiled c.args.greedy _ _ _ _ _ _ _ _ _ (c.deref.ensures.value ∙ c.in_ok-targets.ensures.items)
    c.in_ok-again.ensures.compiled) c.choose_each.ensures.added

pub star-returns-then-always_reads-clause-compiled : goal.star-returns-then-always_reads-clause-compiled
star-returns-then-always_reads-clause-compiled g t c =
    only_compiled _ _ _ _ c.args.ids.now c.plus.new.ids _
    (omega (arith, c.if-ids-eq1.true, c.in_ok-again.ensures.compiled.len))
    c.in_ok-again.ensures.compiled.len (c.in_ok-again.ensures.again (c.always_reads.ensures c.if-always_reads.true))

pub repetition-returns-in_ok-up_to-in-Some-clause-compiled : goal.repetition-returns-in_ok-up_to-in-Some-clause-compiled
repetition-returns-in_ok-up_to-in-Some-clause-compiled g t c = on_ok_weaker c.copies.result
    (λ front. rw (c.in-Some.is, ← c.saturating_sub.ensures)
    (front _ _ _ c.requires (rw c.wanted-behind.ensures at c.in_ok-up_to-in-Some.ensures.compiled)))
    c.copies.ensures.front

pub repetition-returns-in-None-clause-compiled : goal.repetition-returns-in-None-clause-compiled
repetition-returns-in-None-clause-compiled g t c =
    on_ok_weaker c.star.result (λ star. rw (c.in-None.is, c.if-min-eq0.true) star) c.star.ensures.compiled

pub repetition-returns-in_ok-plus-in-None-2-clause-compiled
    : goal.repetition-returns-in_ok-plus-in-None-2-clause-compiled
repetition-returns-in_ok-plus-in-None-2-clause-compiled g t c = on_ok_weaker c.copies-in-None-2.result
    (λ front. rw (c.in-None.is, repeated_some _ _ _ c.if-min-eq0.false)
    (front _ _ _ c.requires (rw c.wanted.ensures at c.in_ok-plus-in-None-2.ensures.compiled)))
    c.copies-in-None-2.ensures.front

pub part-returns-then-always_reads-clause-paid : goal.part-returns-then-always_reads-clause-paid
part-returns-then-always_reads-clause-paid g t c =
    omega (
      arith,
      ap (λ b. length b.states) c.spend.ensures.kept,
      c.in_ok-spend.ensures.spent,
      c.in_ok-node.ensures.paid,
    )

pub part-returns-clause-paid : goal.part-returns-clause-paid
part-returns-clause-paid g t c =
    let kept = ap (λ b. length b.states) c.spend.ensures.kept in
    on_ok_weaker c.node-2.result (λ paid. omega (arith, kept, c.in_ok-spend.ensures.spent, paid)) c.node-2.ensures.paid

pub node-returns-in-Literal-clause-paid : goal.node-returns-in-Literal-clause-paid
node-returns-in-Literal-clause-paid g t c = c.literal.ensures.paid

pub node-returns-in-Class-clause-paid : goal.node-returns-in-Class-clause-paid
node-returns-in-Class-clause-paid g t c = c.class.ensures.paid

pub node-returns-in-Look-clause-paid : goal.node-returns-in-Look-clause-paid
node-returns-in-Look-clause-paid g t c = c.look_each.ensures.paid

pub node-returns-in-Repetition-clause-paid : goal.node-returns-in-Repetition-clause-paid
node-returns-in-Repetition-clause-paid g t c = c.repetition.ensures.paid

pub node-returns-in-Capture-clause-paid : goal.node-returns-in-Capture-clause-paid
node-returns-in-Capture-clause-paid g t c = c.part.ensures.paid

pub node-returns-in-Concat-clause-paid : goal.node-returns-in-Concat-clause-paid
node-returns-in-Concat-clause-paid g t c = c.concat.ensures.paid

pub node-returns-in-Alternation-clause-paid : goal.node-returns-in-Alternation-clause-paid
node-returns-in-Alternation-clause-paid g t c = c.alternation.ensures.paid

pub concat-returns-clause-compiled : goal.concat-returns-clause-compiled
concat-returns-clause-compiled g t c =
    let start : c.loop-i.i ≡ c.args.from = omega (arith, c.loop-i.invariant.2) in
    rw (start, lt_false c.args.from c.args.from refl) at c.loop-i.invariant.0

pub concat-returns-clause-paid : goal.concat-returns-clause-paid
concat-returns-clause-paid g t c = c.loop-i.invariant.1

pub choices-returns-clause-compiled : goal.choices-returns-clause-compiled
choices-returns-clause-compiled g t c = let start : c.loop-i.i ≡ 0 = omega arith in rw start at c.loop-i.invariant.0

pub choices-returns-clause-paid : goal.choices-returns-clause-paid
choices-returns-clause-paid g t c = c.loop-i.invariant.2

pub alternation-returns-clause-paid : goal.alternation-returns-clause-paid
alternation-returns-clause-paid g t c = c.choices.ensures.paid

pub alternation-returns-then-ids-eq1-clause-paid : goal.alternation-returns-then-ids-eq1-clause-paid
alternation-returns-then-ids-eq1-clause-paid g t c = c.in_ok-ids.ensures.paid

pub branches-returns-clause-paid : goal.branches-returns-clause-paid
branches-returns-clause-paid g t c =
    on_ok_weaker c.words.result (λ paid. omega (arith, c.loop-i.invariant.1, paid)) c.words.ensures.paid

pub copies-returns-clause-paid : goal.copies-returns-clause-paid
copies-returns-clause-paid g t c = c.loop-done.invariant.2

pub up_to-returns-clause-paid : goal.up_to-returns-clause-paid
up_to-returns-clause-paid g t c = c.loop-done.invariant.1

pub star-returns-clause-paid : goal.star-returns-clause-paid
star-returns-clause-paid g t c = on_ok_weaker c.choose_each.result
    (λ paid. omega (arith, c.in_ok-again.ensures.paid, paid)) c.choose_each.ensures.paid

pub star-returns-then-always_reads-clause-paid : goal.star-returns-then-always_reads-clause-paid
star-returns-then-always_reads-clause-paid g t c = c.in_ok-again.ensures.paid

pub plus-returns-clause-paid : goal.plus-returns-clause-paid
plus-returns-clause-paid g t c =
    omega (
      arith,
      c.in_ok-again.ensures.paid,
      c.in_ok-unread.ensures.paid,
      c.in_ok-part-2.ensures.paid,
      c.in_ok-close-2.ensures.paid,
    )

pub plus-returns-then-fails_unread-clause-paid : goal.plus-returns-then-fails_unread-clause-paid
plus-returns-then-fails_unread-clause-paid g t c =
    omega (arith, c.in_ok-again.ensures.paid, c.in_ok-part.ensures.paid, c.in_ok-close.ensures.paid)

pub repetition-returns-in_ok-up_to-in-Some-clause-paid : goal.repetition-returns-in_ok-up_to-in-Some-clause-paid
repetition-returns-in_ok-up_to-in-Some-clause-paid g t c = on_ok_weaker c.copies.result
    (λ paid. omega (arith, c.in_ok-up_to-in-Some.ensures.paid, paid)) c.copies.ensures.paid

pub repetition-returns-in-None-clause-paid : goal.repetition-returns-in-None-clause-paid
repetition-returns-in-None-clause-paid g t c = c.star.ensures.paid

pub repetition-returns-in_ok-plus-in-None-2-clause-paid : goal.repetition-returns-in_ok-plus-in-None-2-clause-paid
repetition-returns-in_ok-plus-in-None-2-clause-paid g t c = on_ok_weaker c.copies-in-None-2.result
    (λ paid. omega (arith, c.in_ok-plus-in-None-2.ensures.paid, paid)) c.copies-in-None-2.ensures.paid
