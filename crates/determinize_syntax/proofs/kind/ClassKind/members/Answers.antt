use Rattle.determinize_syntax.proofs.Common.{◌∙◌, ClassBytesRange, Global, Vec, ap, refl, set_of}
use Rattle.determinize_syntax.proofs.Common.{sym}
use Rattle.determinize_syntax.proofs.Classes.{below_with, below_without}
use Rattle.determinize_syntax.proofs.kind.ClassKind.members.Goals.{then-contains+in_ok-push, else-contains}
use Rattle.determinize_syntax.proofs.kind.ClassKind.members.Goals as goal

pub loop-i-preserved : goal.loop-i-preserved
loop-i-preserved c =
    let s = set_of c.args.self in
    elim c.if-contains.branch [
      | then-contains+in_ok-push w ↦
          below_with s c.loop-i.i c.loop-i.members.items c.if-contains.members.items
          (record { start = c.loop-i.i; end = c.loop-i.i })
          c.loop-i.invariant (ap (λ (v : Vec ClassBytesRange Global). v.items) w.members-is
          ∙ w.in_ok-push.ensures.items) refl (sym c.contains.ensures ∙ w.if-contains.true)
      | else-contains w ↦
          rw w.members-is (below_without s c.loop-i.i c.loop-i.members.items c.loop-i.invariant
          (sym c.contains.ensures ∙ w.if-contains.false))
    ]
