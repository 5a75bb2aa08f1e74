use Rattle.std.proofs.Common.{◌≡◌, arith, get_or, take}
use Rattle.std.proofs.lemmas.List.{take_all}
use Rattle.determinize_pattern.proofs.characters.Sweeping.{next_lowest, swept_all, swept_gap, swept_next}
use Rattle.std.proofs.lemmas.Result.{IfOk-weaker}
use Rattle.determinize_pattern.specs.Characters.{char_pairs}
use Rattle.determinize_pattern.specs.Patterns.{meaning}
use Rattle.determinize_pattern.specs.declared.chars.ClassUnicodeRange.{ClassUnicodeRange}
use Rattle.determinize_pattern.specs.declared.chars.TheConstants.{PAST}
use Rattle.determinize_pattern.proofs.chars.collect.Goals.{then-end-first+in_ok-push_run, else-end-first}
use Rattle.determinize_pattern.proofs.chars.collect.Goals as goal

abbrev default : ClassUnicodeRange
default = record { start = 0; end = 0 }

pub loop-range-preserved : goal.loop-range-preserved
loop-range-preserved c =
    let items = c.deref-range-items.result.now in
    let index = c.loop-range.range-index in
    let first = (get_or items index default).start in
    let ordered = rw (← c.deref-range-items.ensures.value) at c.in_ok-sorted.ensures.ordered in
    elim c.if-end-first.branch [
      | then-end-first+in_ok-push_run w ↦ record {
        lowest = λ k d l m. rw w.start-is (next_lowest items index k default d ordered (omega arith) m);
        within = omega (arith, c.max-end.ensures, w.end-is);
        swept = rw (w.runs-is, w.start-is, c.max-end.ensures, w.end-is)
            (swept_next items index default c.args.negated first first _ c.loop-range-test.true
            (swept_gap (char_pairs (take index items)) c.loop-range.start c.loop-range.end first _ _ c.args.negated
            c.loop-range.invariant.swept (omega (arith, w.if-end-first.true)) w.in_ok-push_run.ensures)
            (omega arith) (omega arith));
      }
      | else-end-first w ↦ record {
        lowest = λ k d l m. rw w.start-is (c.loop-range.invariant.lowest k d (omega arith) m);
        within = omega (arith, c.max-end.ensures, w.end-is, c.loop-range.invariant.within);
        swept = rw (w.runs-is, w.start-is, c.max-end.ensures, w.end-is)
            (swept_next items index default c.args.negated c.loop-range.start c.loop-range.end _
            c.loop-range-test.true c.loop-range.invariant.swept
            (c.loop-range.invariant.lowest index default (omega arith) c.loop-range-test.true) w.if-end-first.false);
      }
    ]

pub returns : goal.returns
returns c =
    let items = c.deref-range-items.result.now in
    let done : take c.loop-range.range-index items ≡ items = take_all _ _ (omega arith) in
    let swept = rw done at c.loop-range.invariant.swept in
    let whole = swept_gap (char_pairs items) c.loop-range.start c.loop-range.end PAST _ _ c.args.negated swept
    c.loop-range.invariant.within c.in_ok-push_run-2.ensures in
    let same = rw (← c.deref-range-items.ensures.value) at c.in_ok-sorted.ensures.same in
    IfOk-weaker c.chars_of.result _ _
    (λ p h. swept_all c.args.ranges.now items c.args.negated _ (meaning p) same whole (rw c.deref.ensures.value at h))
    c.chars_of.ensures
