use Rattle.determinize_syntax.proofs.Common.{◌∙◌, ClassBytesRange, Global, Vec, ap, either_case, has}
use Rattle.determinize_syntax.proofs.Common.{refl, sym}
use Rattle.determinize_syntax.proofs.Classes.{below_with, below_without}
use Rattle.determinize_syntax.proofs.class.with_cases.Goals.{then-has_case+in_ok-push, else-has_case}
use Rattle.determinize_syntax.proofs.class.with_cases.Goals as goal

pub loop-i-preserved : goal.loop-i-preserved
loop-i-preserved c =
    let s = either_case (has c.args.ranges.now) in
    elim c.if-has_case.branch [
      | then-has_case+in_ok-push w ↦
          below_with s c.loop-i.i c.loop-i.cases.items c.if-has_case.cases.items
          (record { start = c.loop-i.i; end = c.loop-i.i })
          c.loop-i.invariant (ap (λ (v : Vec ClassBytesRange Global). v.items) w.cases-is ∙ w.in_ok-push.ensures.items)
          refl (sym c.has_case.ensures ∙ w.if-has_case.true)
      | else-has_case w ↦
          rw w.cases-is (below_without s c.loop-i.i c.loop-i.cases.items c.loop-i.invariant
          (sym c.has_case.ensures ∙ w.if-has_case.false))
    ]
