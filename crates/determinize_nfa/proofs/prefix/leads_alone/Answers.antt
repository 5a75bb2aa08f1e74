use Rattle.std.proofs.Common.{below_more}
use Rattle.std.proofs.lemmas.Bool.{not-false}
use Rattle.determinize_nfa.proofs.Common.{arith, by_cases, cases_lt, eqb-true, false≢true, get_or_from_slice_get}
use Rattle.determinize_nfa.proofs.Common.{get_or_past, leads_to, length, refl, state_at, sym, true, ◌∙◌, ◌≡◌}
use Rattle.determinize_nfa.proofs.prefix.leads_alone.Goals as goal
use Rattle.determinize_nfa.proofs.prefix.leads_alone.Goals.{else-ne-via-else-ne, else-ne-via-then-ne+else-leads_to}

pub loop-index-preserved : goal.loop-index-preserved
loop-index-preserved g c =
    below_more (λ s. leads_to c.args.id (state_at c.args.nfa.now s) ≡ true → s ≡ c.args.from) c.loop-index.index
    c.loop-index.invariant (λ h. elim c.else-ne.branch [
      | else-ne-via-then-ne+else-leads_to w ↦ absurd (false≢true (sym w.if-leads_to.false ∙ w.leads_to.ensures
          ∙ (rw (← c.must-other.ensures, get_or_from_slice_get _ _ _ _ w.state.ensures.state) at h)))
      | else-ne-via-else-ne w ↦ sym c.must-other.ensures
          ∙ eqb-true _ _ (not-false _ (sym c.ne.ensures ∙ w.if-ne.false))
    ])

pub returns : goal.returns
returns g c = (
  λ t s h. by_cases (cases_lt s (length c.args.nfa.now.states))
      (λ l. c.loop-index.invariant s (omega (arith, c.len-index-end.ensures.count)) h)
      (λ past. absurd (false≢true (rw (get_or_past c.args.nfa.now.states s _ past) at h))),
  λ h. refl,
)
