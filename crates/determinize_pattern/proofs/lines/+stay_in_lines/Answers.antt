use Rattle.std.proofs.Common.{◌≡◌, ◌∙◌, List, Some, arith, map, refl, sym, take, true}
use Rattle.std.proofs.lemmas.Bool.{false≢true}
use Rattle.std.proofs.lemmas.List.{take_all, take_more}
use Rattle.std.proofs.lemmas.List.Recursion.{and_fails_at, and_push}
use Rattle.ordered_reach.proofs.Cases.{by_cases}
use Rattle.determinize_pattern.specs.Lines as lines
use Rattle.determinize_pattern.specs.Lines.{all_stay}
use Rattle.determinize_pattern.specs.Patterns.{meaning}
use Rattle.determinize_pattern.specs.declared.pattern.Pattern.{Pattern}
use Rattle.determinize_pattern.proofs.compiled.Patterns.{meaning_alternation, meaning_concat, meaning_literal, meaning_repetition}
use Rattle.determinize_pattern.proofs.in_lines.Staying.{stays_choice, stays_literal, stays_repeated, stays_sequence}
use Rattle.determinize_pattern.proofs.lines.+stay_in_lines.Goals.{stays_in_line-else-min-eq0, stays_in_line-then-min-eq0}
use Rattle.determinize_pattern.proofs.lines.+stay_in_lines.Goals as goal

pub stay_in_lines-loop-i-init : goal.stay_in_lines-loop-i-init
stay_in_lines-loop-i-init t c = refl

pub stay_in_lines-returns-then-not-stays_in_line : goal.stay_in_lines-returns-then-not-stays_in_line
stay_in_lines-returns-then-not-stays_in_line t c =
    let sub = c.index-patterns-i.result in
    sym (and_fails_at (λ (ps : List Pattern). all_stay c.args.terminator (map meaning ps))
    (λ (p : Pattern). lines.stays_in_line c.args.terminator (meaning p)) refl (λ p ps. refl)
    c.args.patterns.now c.loop-i.i sub c.loop-i-test.true
    (rw (← c.index-patterns-i.is) (sym c.stays_in_line.ensures ∙ c.if-not-stays_in_line.true)))

pub stay_in_lines-loop-i-preserved : goal.stay_in_lines-loop-i-preserved
stay_in_lines-loop-i-preserved t c =
    let sub = c.index-patterns-i.result in
    rw (take_more c.args.patterns.now c.loop-i.i sub c.loop-i-test.true, ← c.index-patterns-i.is)
    (and_push (λ (ps : List Pattern). all_stay c.args.terminator (map meaning ps))
    (λ (p : Pattern). lines.stays_in_line c.args.terminator (meaning p)) refl (λ p ps. refl)
    (take c.loop-i.i c.args.patterns.now) sub
    ∙ rw (c.loop-i.invariant, ← c.stays_in_line.ensures) c.if-not-stays_in_line.false)

pub stay_in_lines-returns : goal.stay_in_lines-returns
stay_in_lines-returns t c =
    let all : take c.loop-i.i c.args.patterns.now ≡ c.args.patterns.now =
    take_all c.loop-i.i c.args.patterns.now (omega arith) in
    sym (rw all at c.loop-i.invariant)

pub stays_in_line-returns-in-Literal : goal.stays_in_line-returns-in-Literal
stays_in_line-returns-in-Literal t c =
    rw (c.in-Literal.is, meaning_literal, stays_literal, c.contains.ensures.value, c.deref.ensures.value) refl

pub stays_in_line-returns-else-eq : goal.stays_in_line-returns-else-eq
stays_in_line-returns-else-eq t c =
    let none : (c.in-Repetition.min ≡ 0) × (c.in-Repetition.max ≡ Some 0) → ⊥ =
    λ h. elim c.if-min-eq0.branch [
      | stays_in_line-then-min-eq0 w ↦
          let e : w.eq.result ≡ true = rw h.1 at w.eq.ensures in
          false≢true (sym c.if-eq.false ∙ w.value-is ∙ e)
      | stays_in_line-else-min-eq0 w ↦ w.if-min-eq0.false h.0
    ] in
    rw (c.in-Repetition.is, meaning_repetition)
    (c.stays_in_line.ensures ∙ rw (c.deref-else-eq.ensures) (sym (stays_repeated c.args.terminator
    c.in-Repetition.greedy (meaning c.in-Repetition.sub.value) c.in-Repetition.min c.in-Repetition.max none)))

pub stays_in_line-returns-in-Concat : goal.stays_in_line-returns-in-Concat
stays_in_line-returns-in-Concat t c =
    let all : c.stay_in_lines.result ≡ all_stay c.args.terminator (map meaning c.in-Concat.subs.items) =
    rw c.deref-in-Concat.ensures.value at c.stay_in_lines.ensures in
    by_cases c.in-Concat.is
    (λ e. rw (e, meaning_concat, stays_sequence) all)
    (λ e. rw (e, meaning_alternation, stays_choice) all)
