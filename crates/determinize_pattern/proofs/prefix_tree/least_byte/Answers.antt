use Rattle.std.below.core.specs.declared.int.usize.TheConstants.{MAX}
use Rattle.std.proofs.Common.{◌+◌, ◌≤◌, arith, drop, refl, sym, take}
use Rattle.std.proofs.lemmas.List.{take_all}
use Rattle.determinize_pattern.proofs.compiled.Words.{small_one, words_next}
use Rattle.determinize_pattern.specs.Private.Words.{words_from}
use Rattle.determinize_pattern.proofs.prefix_tree.least_byte.Goals as goal

pub loop-word-init : goal.loop-word-init
loop-word-init g c = (λ b l. refl, tt)

pub loop-word-preserved : goal.loop-word-preserved
loop-word-preserved g c =
    let k = c.loop-word.word-index in
    let word = c.word-item.result in (
      rw (words_next c.args.place k c.args.words.now word c.loop-word-test.true c.word-item.is)
          (c.lesser-least.ensures.added (words_from c.args.place (take k c.args.words.now))
          (drop c.args.place word.now.0, word.now.1) (sym c.byte.ensures.byte) c.loop-word.invariant.0),
      small_one (c.args.place + 1 ≤ MAX) c.lesser-least.result c.loop-word.least c.byte.result
          c.lesser-least.ensures.one
          c.loop-word.invariant.1
          c.byte.ensures.small,
    )

pub returns-clause-least : goal.returns-clause-least
returns-clause-least g c =
    rw (take_all c.loop-word.word-index c.args.words.now (omega arith)) at c.loop-word.invariant.0
