use Rattle.std.proofs.Common.{rules, ◌≡◌, ◌*◌, arith, false, length}
use Rattle.std.proofs.lemmas.Bool.Decides.{nat_tests}
use Rattle.determinize_below.specs.Private.Sparse.{has_bit}
use Rattle.determinize_below.proofs.sets.Bits.{has_bit-zeros, words_back}
use Rattle.determinize_linear.proofs.row_marks.RowMarks.new.Goals.{else-is_dead, then-is_dead}
use Rattle.determinize_linear.proofs.row_marks.RowMarks.new.Goals as goal

pub returns-clause-first : goal.returns-clause-first
returns-clause-first g c = λ i.
    let width : c.in_ok-width.width ≡ c.args.columns * c.div_ceil-span.result = search rules in
    let none = c.in_ok-words.ensures.items_if_clones_equal (λ y h. h) in
    elim c.if-is_dead.branch [
      | then-is_dead w ↦
          let len : c.in_ok-words.words.len ≡ length w.set_first.new.words
          = omega (arith, w.set_first.ensures.length, w.deref_mut.ensures.len) in
          let zeros : has_bit w.deref_mut.result.now i ≡ false
          = rw (w.deref_mut.ensures.value, none) (has_bit-zeros _ i) in
          rw (
            w.words-is,
            w.if-is_dead.true,
            words_back w.set_first.new.words _ c.in_ok-words.words.len len,
            w.set_first.ensures.bits i,
            zeros,
            width,
          ) (grind (arith, nat_tests))
      | else-is_dead w ↦ rw (w.words-is, w.if-is_dead.false, none) (has_bit-zeros _ i)
    ]
