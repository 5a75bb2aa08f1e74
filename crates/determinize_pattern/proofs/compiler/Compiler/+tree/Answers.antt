use Rattle.std.proofs.Common.{◌≤◌, arith, drop, length}
use Rattle.std.proofs.lemmas.Grind.{common_steps}
use Rattle.std.proofs.lemmas.List.{length-drop, take_all, take_rest}
use Rattle.std.proofs.lemmas.Result.{IfOk-weaker}
use Rattle.determinize_pattern.proofs.compiled.Compiling.{ok_both}
use Rattle.determinize_pattern.proofs.compiled.Trees.{arms_more, arms_none, group_tree, no_tree, sparse_tree, tree_joined, trees_more, trees_none, word_tree}
use Rattle.determinize_pattern.proofs.compiled.Words.{words_next, words_range}
use Rattle.determinize_pattern.specs.Private.Words.{words_from}
use Rattle.determinize_pattern.proofs.compiler.Compiler.+tree.Goals as goal

pub by_byte-loop-byte-init : goal.by_byte-loop-byte-init
by_byte-loop-byte-init g t c = (rw c.new-transitions.ensures.items (arms_none _ _), omega arith, omega arith)

pub by_byte-loop-byte-preserved : goal.by_byte-loop-byte-preserved
by_byte-loop-byte-preserved g t c =
    let least = c.in-Some.ensures.least in
    let tree = rw (c.deref.ensures.value, c.in_ok-next_words.ensures) at c.in_ok-next.ensures.tree in (
      rw c.in_ok-push.ensures.items
          (arms_more _ _ _ _ _ c.in-Some.byte _ _ c.loop-byte.invariant.0 least.0 least.1 tree),
      omega arith,
      omega (arith, c.loop-byte.invariant.2, c.in_ok-next.ensures.paid),
    )

pub by_byte-returns-clause-tree : goal.by_byte-returns-clause-tree
by_byte-returns-clause-tree g t c =
    let kept = c.spend.ensures.kept in
    sparse_tree _ _ _ _ _ c.loop-byte.transitions.items _ c.loop-byte.invariant.0 c.in_default.ensures.least c.requires
    (rw kept at c.in_ok-add_sparse.ensures.id) (rw (kept, c.deref-2.ensures.value) at c.in_ok-add_sparse.ensures.added)

pub group-returns-then-is_empty-clause-tree : goal.group-returns-then-is_empty-clause-tree
group-returns-then-is_empty-clause-tree g t c = ok_both c.fail.result c.fail.ensures.id c.fail.ensures.added
    (λ s e k. no_tree _ _ c.args.place c.args.words.now s (grind (arith, common_steps)) e k)

pub group-returns-clause-tree : goal.group-returns-clause-tree
group-returns-clause-tree g t c =
    let shared = c.count_shared-count.ensures in
    IfOk-weaker c.in_front.result _ _
    (λ s h. group_tree _ _ _ c.rest-first.result.now c.count_shared-count.result c.args.place c.args.words.now _ s
    shared.within shared.shared c.in_ok-next.ensures.tree h)
    c.in_front.ensures.begun

pub tree-loop-from-init : goal.tree-loop-from-init
tree-loop-from-init g t c = (rw c.new-starts.ensures.items (trees_none _), omega arith, omega arith)

pub tree-loop-from-preserved-then-count-eq0 : goal.tree-loop-from-preserved-then-count-eq0
tree-loop-from-preserved-then-count-eq0 g t c =
    let word = c.index-words-from.result in
    let begun = rw (c.rest.ensures.rest, c.next.ensures) at c.in_ok-start.ensures.begun in (
      rw (
        words_next c.args.place c.loop-from.from c.args.words.now word c.loop-from-test.true c.index-words-from.is,
        c.in_ok-push.ensures.items,
      )
          (trees_more _ _ _ _ _ _ _ c.loop-from.invariant.0
          (word_tree _ _ (drop c.args.place word.now.0) word.now.1 _ begun)),
      omega (arith, c.loop-from-test.true),
      omega (arith, c.loop-from.invariant.2, c.in_ok-start.ensures.paid),
    )

pub tree-loop-from-preserved : goal.tree-loop-from-preserved
tree-loop-from-preserved g t c =
    let count = c.count_longer-count.result in
    let left = take_rest c.args.words.now c.loop-from.from in
    let within : count ≤ length (drop c.loop-from.from c.args.words.now) =
    rw left at c.count_longer-count.ensures.within in (
      rw (words_range c.args.place c.loop-from.from count c.args.words.now, c.in_ok-push-2.ensures.items)
          (trees_more _ _ _ _ _ _ _ c.loop-from.invariant.0 (rw left at c.in_ok-start-2.ensures.tree)),
      omega (arith, within, length-drop c.loop-from.from c.args.words.now, c.loop-from-test.true),
      omega (arith, c.loop-from.invariant.2, c.in_ok-start-2.ensures.paid),
    )

pub tree-returns-clause-tree : goal.tree-returns-clause-tree
tree-returns-clause-tree g t c = IfOk-weaker c.join.result _ _
    (λ s h. tree_joined _ _ _ (words_from c.args.place c.args.words.now) _ s
    (rw (take_all c.loop-from.from c.args.words.now (omega arith)) at c.loop-from.invariant.0)
    (rw c.deref.ensures.value at h))
    c.join.ensures.joined
