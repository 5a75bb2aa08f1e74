use Rattle.determinize_syntax.proofs.Common.{HasBytes, IsOneOf, folded, has, has_char, meaning, subst, sym, turned}
use Rattle.determinize_syntax.proofs.Classes.{kind_class}
use Rattle.determinize_syntax.proofs.class.one_of.Goals as goal

pub returns-then-not-flags : goal.returns-then-not-flags
returns-then-not-flags c =
    let f = c.args.flags in
    let n = c.args.negated in
    let s = has_char c.args.ranges.now in
    let class = c.in_ok-class.field-0 in
    subst (λ u. IsOneOf u (turned n (folded f s)) (meaning c.of_class.result)) (sym c.if-not-flags.true) (
      class,
      c.of_class.ensures,
      kind_class f n s c.in_ok-bytes.bytes.items class c.in_ok-bytes.ensures
          (subst (λ l. HasBytes (turned n (folded f (has l))) class) c.deref.ensures.value c.in_ok-class.ensures),
    )
