use Rattle.determinize_syntax.proofs.Common.{◌∙◌, ◌≡◌, closed, is_name, some_injective, sym, took, true}
use Rattle.determinize_syntax.proofs.Munch.{names_same}
use Rattle.determinize_syntax.proofs.Rules.{name_begun, name_more}
use Rattle.determinize_syntax.proofs.group.letters_of_name.Goals as goal

pub loop-next-init : goal.loop-next-init
loop-next-init c =
    took (λ t. is_name t ≡ true) (c.pass.ensures c.in-Some.first (sym c.peek.ensures ∙ c.in-Some.is))
    (name_begun c.in-Some.first (sym c.begins_name.ensures ∙ c.if-not-begins_name.false))

pub loop-next-preserved : goal.loop-next-preserved
loop-next-preserved c =
    closed (λ t. is_name t ≡ true) (λ t. is_name t ≡ true) c.loop-next.invariant
    (c.pass-in-Some-peek.ensures c.in-Some-peek.next (sym c.peek-in-loop-next.ensures ∙ c.in-Some-peek.is))
    (λ t is. name_more t c.in-Some-peek.next is (sym c.is_in_name.ensures ∙ c.if-not-is_in_name.false))

pub returns-in_default-peek-clause-whole : goal.returns-in_default-peek-clause-whole
returns-in_default-peek-clause-whole c n u e is =
    let h = c.loop-next.invariant in
    names_same h.0 n _ u h.2 is (sym h.1 ∙ e)
    (λ d at. absurd (c.in_default-peek.not-Some d (c.peek-in-loop-next.ensures ∙ at)))

pub returns-then-not-is_in_name-clause-whole : goal.returns-then-not-is_in_name-clause-whole
returns-then-not-is_in_name-clause-whole c n u e is =
    let h = c.loop-next.invariant in
    names_same h.0 n _ u h.2 is (sym h.1 ∙ e)
    (λ d at. rw (← some_injective c.in-Some-peek.next d (sym c.in-Some-peek.is ∙ c.peek-in-loop-next.ensures ∙ at))
    (sym c.is_in_name.ensures ∙ c.if-not-is_in_name.true))
