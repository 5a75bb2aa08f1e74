use Rattle.determinize_nfa.proofs.Common.{BuilderValue, IfErr-weaker, IfOk-weaker, IsApart, Nfa, None, ap, append_assoc}
use Rattle.determinize_nfa.proofs.Common.{arith, built, by_cases, by_option, failure, if_err_and, inl, inr, length}
use Rattle.determinize_nfa.proofs.Common.{length-map, map, node_of, prefixed, refl, suc, sym, ◌+◌, ◌<◌, ◌∙◌, ◌≡◌}
use Rattle.determinize_nfa.proofs.building.Building.{first_passes, has_prefix_apart, is_ahead, none_ahead, none_passes}
use Rattle.determinize_nfa.proofs.building.Building.{unfit_too_many}
use Rattle.determinize_nfa.specs.Builder.{has_transition_to}
use Rattle.determinize_nfa.proofs.builder.Builder.build_with_prefix.Goals as goal

pub returns-in_err-skip-clause-err : goal.returns-in_err-skip-clause-err
returns-in_err-skip-clause-err g c = if_err_and c.from_residual.result _ _
    (unfit_too_many c.args.self.now c.args.start_anchored (c.len-count.result + 1)
    (rw (← c.self.view_is, length-map c.self.inside.states.items node_of) (omega arith)) c.in_err-skip.ensures.ok)
    c.from_residual.ensures.1

pub returns-then-as_usize-count-clause-err : goal.returns-then-as_usize-count-clause-err
returns-then-as_usize-count-clause-err g c = inr (inl (inl (
  refl,
  rw (← c.self.view_is, length-map c.self.inside.states.items node_of) (omega arith),
)))

pub returns-in-Some-clause-err : goal.returns-in-Some-clause-err
returns-in-Some-clause-err g c = is_ahead c.args.self.now c.args.start_anchored c.must-union.result c.in_ok-skip.skip
    (rw (← c.self.view_is, length-map c.self.inside.states.items node_of) (omega (arith, c.must-union.ensures)))
    (rw (← c.self.view_is, length-map c.self.inside.states.items node_of) (omega (arith, c.in_ok-skip.ensures.ok.1)))
    c.in-Some.index
    (rw (← c.self.view_is) (first_passes node_of (has_transition_to c.must-union.result c.in_ok-skip.skip)
    c.self.inside.states.items c.in-Some.index
    (rw c.as_slice.ensures.value at (sym c.first_to.ensures ∙ c.in-Some.is))))

ids : (g : _) (c : goal.After-from_parts g) → (c.must-union.result ≡ length c.args.self.now.states)
    × (c.in_ok-skip.skip ≡ suc (length c.args.self.now.states))
ids g c = rw (← c.self.view_is, length-map c.self.inside.states.items node_of)
    (omega (arith, c.must-union.ensures), omega (arith, c.in_ok-skip.ensures.ok.1))

-- the copies with the two states of the prefix
abbrev made : (g : _) → goal.After-from_parts g → BuilderValue
made g c = record {
  states = map node_of c.push_prefix.new.states.items;
  patterns = c.self.inside.patterns;
  terminator = c.self.inside.look_matcher;
}

made_is : (g : _) (c : goal.After-from_parts g) → made g c ≡ prefixed c.args.self.now c.args.start_anchored
made_is g c =
    rw (
      c.in_ok-push_prefix.ensures,
      c.in_ok-states.ensures,
      c.as_slice-2.ensures.value,
      append_assoc,
      (ids g c).0,
      (ids g c).1,
      ← c.self.view_is,
    ) refl

nfa_is : (g : _) (c : goal.After-from_parts g) → built (made g c) c.args.start_anchored c.must-union.result
    ≡ built (prefixed c.args.self.now c.args.start_anchored) c.args.start_anchored (length c.args.self.now.states)
nfa_is g c = ap (λ (b : BuilderValue). built b c.args.start_anchored c.must-union.result) (made_is g c)
    ∙ ap (built (prefixed c.args.self.now c.args.start_anchored) c.args.start_anchored) (ids g c).0

pub returns-clause-ok : goal.returns-clause-ok
returns-clause-ok g c = IfOk-weaker c.from_parts.result _ _ (λ n e. e ∙ nfa_is g c) c.from_parts.ensures.ok

apart : (g : _) (c : goal.After-from_parts g) → IsApart c.args.self.now
apart g c =
    let none : c.first_to.result ≡ None
    = by_option c.first_to.result (λ h. h) (λ i h. absurd (c.in_default.not-Some i h)) in
    none_ahead c.args.self.now c.args.start_anchored c.must-union.result c.in_ok-skip.skip (ids g c).0 (ids g c).1
    (rw (← c.self.view_is) (none_passes node_of (has_transition_to c.must-union.result c.in_ok-skip.skip)
    c.self.inside.states.items (rw c.as_slice.ensures.value at (sym c.first_to.ensures ∙ none))))

pub returns-clause-apart : goal.returns-clause-apart
returns-clause-apart g c = IfOk-weaker c.from_parts.result _ _ (λ n e. apart g c) (returns-clause-ok g c)

pub returns-clause-separate : goal.returns-clause-separate
returns-clause-separate g c =
    let below : c.args.start_anchored < length c.args.self.now.states
    = omega (arith, (ids g c).0, c.must-union.ensures, c.if-as_usize-count.false) in
    IfOk-weaker c.from_parts.result _ _
    (λ n e. rw e (has_prefix_apart c.args.self.now c.args.start_anchored below (apart g c)))
    (returns-clause-ok g c)

pub returns-clause-prefix : goal.returns-clause-prefix
returns-clause-prefix g c = IfOk-weaker c.from_parts.result _ _ (λ n a. a.prefix) (returns-clause-separate g c)

pub returns-clause-forward : goal.returns-clause-forward
returns-clause-forward g c = IfOk-weaker c.from_parts.result _ _ (λ n e. rw e refl) (returns-clause-ok g c)

pub returns-clause-err : goal.returns-clause-err
returns-clause-err g c = IfErr-weaker c.from_parts.result _ _
    (λ e d. by_cases d
    (λ f. inl (ap (λ (n : Nfa). failure n.states n.start_anchored n.start_unanchored) (sym (nfa_is g c)) ∙ f))
    (λ f. inr (inr f)))
    c.from_parts.ensures.err
