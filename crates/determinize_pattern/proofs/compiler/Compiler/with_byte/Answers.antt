use Rattle.std.proofs.Common.{◌∙◌, sym}
use Rattle.determinize_pattern.proofs.compiled.Words.{found_more, found_same}
use Rattle.determinize_pattern.proofs.compiler.Compiler.with_byte.Goals.{then-has+in_ok-push, else-has}
use Rattle.determinize_pattern.proofs.compiler.Compiler.with_byte.Goals as goal

pub loop-word-preserved : goal.loop-word-preserved
loop-word-preserved g c = elim c.if-has.branch [
  | then-has+in_ok-push w ↦ rw (w.found-is, w.in_ok-push.ensures.items)
      (found_more c.args.place c.args.byte c.loop-word.word-index c.args.words.now c.word-item.result
      c.loop-word.found.items c.loop-word-test.true c.word-item.is (sym c.has.ensures ∙ w.if-has.true)
      c.loop-word.invariant)
  | else-has w ↦ rw w.found-is
      (found_same c.args.place c.args.byte c.loop-word.word-index c.args.words.now c.word-item.result
      c.loop-word.found.items c.loop-word-test.true c.word-item.is (sym c.has.ensures ∙ w.if-has.false)
      c.loop-word.invariant)
]
