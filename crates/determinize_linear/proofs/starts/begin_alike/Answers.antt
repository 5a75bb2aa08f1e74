use Rattle.std.proofs.Common.{◌∙◌, None, arith, sym}
use Rattle.std.proofs.lemmas.Bool.{eqb-true, leb-true, true≢false}
use Rattle.determinize_below.specs.Semantics.{before_at}
use Rattle.determinize_linear.proofs.walks.Starts.{rows_alike, units_before}
use Rattle.determinize_linear.proofs.starts.begin_alike.Goals.{else-len-ge-FEW, else-row_behind-first}
use Rattle.determinize_linear.proofs.starts.begin_alike.Goals.{else-row_behind-first-2, else-row_behind-first-3}
use Rattle.determinize_linear.proofs.starts.begin_alike.Goals.{else-row_behind-first-4, then-len-ge-FEW}
use Rattle.determinize_linear.proofs.starts.begin_alike.Goals.{then-row_behind-first, then-row_behind-first-2}
use Rattle.determinize_linear.proofs.starts.begin_alike.Goals.{then-row_behind-first-3, then-row_behind-first-4}
use Rattle.determinize_linear.proofs.starts.begin_alike.Goals as goal

pub returns-then-row_behind-first-5 : goal.returns-then-row_behind-first-5
returns-then-row_behind-first-5 g c = λ e.
    let term = c.line_terminator-terminator.ensures in
    let last = c.row_behind-then-row_behind-first-5 in
    elim c.if-row_behind-first-4.branch [
      | else-row_behind-first-4 w ↦ absurd
          (true≢false (sym c.if-row_behind-first-5.true ∙ w.value-is ∙ w.if-row_behind-first-4.false))
      | then-row_behind-first-4 w4 ↦ elim c.if-row_behind-first-3.branch [
        | else-row_behind-first-3 w ↦ absurd
            (true≢false (sym w4.if-row_behind-first-4.true ∙ w.value-is ∙ w.if-row_behind-first-3.false))
        | then-row_behind-first-3 w3 ↦ elim c.if-row_behind-first-2.branch [
          | else-row_behind-first-2 w ↦ absurd
              (true≢false (sym w3.if-row_behind-first-3.true ∙ w.value-is ∙ w.if-row_behind-first-2.false))
          | then-row_behind-first-2 w2 ↦ elim c.if-row_behind-first.branch [
            | else-row_behind-first w ↦ absurd
                (true≢false (sym w2.if-row_behind-first-2.true ∙ w.value-is ∙ w.if-row_behind-first.false))
            | then-row_behind-first w1 ↦ elim c.if-len-ge-FEW.branch [
              | else-len-ge-FEW w ↦ absurd
                  (omega (arith, leb-true _ _ (sym w.value-is ∙ w1.if-row_behind-first.true), w.if-len-ge-FEW.false))
              | then-len-ge-FEW w0 ↦
                  let rows = rows_alike (g.D.Automaton.stored c.args.dfa.now) c.row_behind-first.result
                  w4.word_byte.result c.other_byte.result (rw term at w4.word_byte.ensures)
                  (rw term at c.other_byte.ensures)
                  (sym w0.row_behind.ensures.row ∙ eqb-true _ _ (sym w0.value-is ∙ w1.if-row_behind-first.true))
                  (rw term at (sym w1.row_behind-then-row_behind-first.ensures.row
                  ∙ eqb-true _ _ (sym w1.value-is ∙ w2.if-row_behind-first-2.true)))
                  (sym w2.row_behind-then-row_behind-first-2.ensures.row
                  ∙ eqb-true _ _ (sym w2.value-is ∙ w3.if-row_behind-first-3.true))
                  (sym w3.row_behind-then-row_behind-first-3.ensures.row
                  ∙ eqb-true _ _ (sym w3.value-is ∙ w4.if-row_behind-first-4.true))
                  (sym w4.row_behind-then-row_behind-first-4.ensures.row
                  ∙ eqb-true _ _ (sym w4.value-is ∙ c.if-row_behind-first-5.true))
                  (sym last.ensures.row ∙ eqb-true _ _ e) in
                  record {
                    row = λ k. rows (before_at c.args.text.now k) ∙ sym (rows None);
                    unit = units_before c.args.text.now (rw c.behind.ensures at c.row_behind-first.ensures.unit)
                        c.len.ensures.units;
                  }
            ]
          ]
        ]
      ]
    ]
