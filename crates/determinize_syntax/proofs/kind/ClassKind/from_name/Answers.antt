use Rattle.determinize_syntax.proofs.Common.{◌<◌, and_parts}
use Rattle.determinize_syntax.proofs.Common.{◌∙◌, ◌≡◌, ◌≤◌, ClassKind, Some, ap, arith, by_test, codes}
use Rattle.determinize_syntax.proofs.Common.{ltb-false, ltb-true, name_of, named_class, nat_lt, slice_get, subst}
use Rattle.determinize_syntax.proofs.Common.{sym, ℕ}
use Rattle.std.proofs.lemmas.Option.{get_or_from_slice_get}
use Rattle.std.proofs.Math.ListN.{get_or}
use Rattle.ordered_reach.proofs.Cases.{by_option}
use Rattle.determinize_syntax.specs.declared.kind.ClassKind.TheVariants.{Alnum}
use Rattle.determinize_syntax.proofs.Munch.{kinds, named_kind, text_differs, text_is}
use Rattle.determinize_syntax.proofs.kind.ClassKind.from_name.Goals as goal

listed : (i j : ℕ) (k : ClassKind) → i ≡ j → slice_get kinds i ≡ Some k → get_or kinds j Alnum ≡ k
listed i j k here at = get_or_from_slice_get kinds j k Alnum (subst (λ n. slice_get kinds n ≡ Some k) here at)

pub loop-kind-init : goal.loop-kind-init
loop-kind-init c i k less at same = absurd (omega (arith, less))

pub loop-kind-preserved : goal.loop-kind-preserved
loop-kind-preserved c i k less at same =
    by_test (nat_lt i c.loop-kind.kind-index)
    (λ t. c.loop-kind.invariant i k (ltb-true i c.loop-kind.kind-index t) at same)
    (λ t. let here : i ≡ c.loop-kind.kind-index =
    (let le : c.loop-kind.kind-index ≤ i = ltb-false i c.loop-kind.kind-index t in omega (arith, le, less)) in
    text_differs c.as_bytes.result.now c.args.name.now (sym c.eq.ensures ∙ c.if-eq.false)
    (c.as_bytes.ensures.value ∙ text_is _ _ c.name.ensures.text
    ∙ ap (λ q. codes (name_of q)) (listed i c.loop-kind.kind-index k here at) ∙ sym same))

pub returns-clause-none : goal.returns-clause-none
returns-clause-none c =
    by_option (named_class c.args.name.now) (λ e. e) (λ s e. let x = named_kind c.args.name.now s e in
    let over : 14 ≤ c.loop-kind.kind-index = c.loop-kind-test.false in
    let less : x.0 < 14 = ltb-true x.0 14 (and_parts (nat_lt x.0 14) _ x.4).0 in
    absurd (c.loop-kind.invariant x.0 x.1 (omega (arith, over, less)) x.2 x.3))
