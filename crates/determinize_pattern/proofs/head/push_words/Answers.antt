use Rattle.std.proofs.Common.{◌≡◌, ◌+◌, arith, drop, map, true}
use Rattle.std.proofs.lemmas.List.{drop_more}
use Rattle.determinize_pattern.proofs.compiled.Heads.{pushed_more}
use Rattle.determinize_pattern.specs.Meaning.{Then}
use Rattle.determinize_pattern.specs.Patterns.{literal, meaning, sequence}
use Rattle.determinize_pattern.proofs.head.push_words.Goals as goal

pub loop-i-preserved : goal.loop-i-preserved
loop-i-preserved g c =
    let i = c.loop-i.i in
    let sub = c.index-subs-i.result in
    let is_word : c.in_ok-push_word.field-0 ≡ true = grind (arith, c.if-not-branch.false) in
    let pushed = rw is_word at c.in_ok-push_word.ensures in
    let before = rw (drop_more c.args.subs.now i sub (omega arith), ← c.index-subs-i.is) at c.loop-i.invariant in
    let whole = Then (literal c.args.bytes.now.items) (sequence (map meaning c.args.subs.now)) in
    rw pushed.1 (pushed_more c.loop-i.bytes.items pushed.0 (meaning sub)
    (sequence (map meaning (drop (i + 1) c.args.subs.now))) whole pushed.2 before)
