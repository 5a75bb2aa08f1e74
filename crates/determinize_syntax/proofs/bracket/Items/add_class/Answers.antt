use Rattle.determinize_syntax.proofs.Common.{◌++◌, ◌∙◌, ◌∷◌, ◌≡◌, AddsChars, HasBytes, [], ap, arith, char_pairs, cond}
use Rattle.determinize_syntax.proofs.Common.{drop, folded, on_ok, pairs, set_of, subst, sym, turned}
use Rattle.std.proofs.lemmas.List.{drop_all}
use Rattle.determinize_syntax.proofs.Characters.{all_added, class_added, folded_ascii}
use Rattle.determinize_syntax.proofs.bracket.Items.add_class.Goals as goal

pub returns-then-not-negated-clause-ranges : goal.returns-then-not-negated-clause-ranges
returns-then-not-negated-clause-ranges c =
    let n = c.args.negated in
    let s = folded c.args.flags (set_of c.args.kind) in
    let ranges = c.ranges-ranges.result.now in
    let mid = char_pairs c.loop-range.self.ranges.items in
    let over : drop c.loop-range.range-index ranges ≡ [] = drop_all c.loop-range.range-index ranges (omega arith) in
    class_added n s (pairs ranges) (char_pairs c.args.self.now.ranges.items) mid mid
    (subst (HasBytes (turned n s)) (sym c.ranges-ranges.ensures) c.in_ok-class.ensures)
    (folded_ascii c.args.flags c.args.kind) (all_added mid _ _ c.loop-range.invariant over)
    (ap (λ x. cond x (mid ++ (128, 0x10_FFFF) ∷ []) mid) (sym c.if-not-negated.true))

pub returns-clause-ranges : goal.returns-clause-ranges
returns-clause-ranges c =
    let n = c.args.negated in
    let s = folded c.args.flags (set_of c.args.kind) in
    let ranges = c.ranges-ranges.result.now in
    let old = char_pairs c.args.self.now.ranges.items in
    let mid = char_pairs c.loop-range.self.ranges.items in
    let new = char_pairs c.add-2.new.self.ranges.items in
    let over : drop c.loop-range.range-index ranges ≡ [] = drop_all c.loop-range.range-index ranges (omega arith) in
    on_ok (new ≡ mid ++ (128, 0x10_FFFF) ∷ []) (AddsChars (turned n s) old new) c.add-2.result c.add-2.ensures.ranges
    (λ e. class_added n s (pairs ranges) old mid new
    (subst (HasBytes (turned n s)) (sym c.ranges-ranges.ensures) c.in_ok-class.ensures)
    (folded_ascii c.args.flags c.args.kind) (all_added mid _ _ c.loop-range.invariant over)
    (e ∙ ap (λ x. cond x (mid ++ (128, 0x10_FFFF) ∷ []) mid) (sym c.if-not-negated.false)))
