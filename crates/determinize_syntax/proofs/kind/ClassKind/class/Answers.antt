use Rattle.determinize_syntax.proofs.Common.{HasBytes, folded, has, ok_then, set_of, subst, turned}
use Rattle.determinize_syntax.proofs.Classes.{kind_class}
use Rattle.determinize_syntax.proofs.kind.ClassKind.class.Goals as goal

pub returns : goal.returns
returns c =
    let f = c.args.flags in
    let n = c.args.negated in
    let s = set_of c.args.self in
    ok_then (HasBytes (turned n (folded f (has c.deref.result.now))))
    (HasBytes (turned n (folded f s))) c.class.result c.class.ensures
    (λ k h. kind_class f n s c.in_ok-members.members.items k c.in_ok-members.ensures
    (subst (λ l. HasBytes (turned n (folded f (has l))) k) c.deref.ensures.value h))
