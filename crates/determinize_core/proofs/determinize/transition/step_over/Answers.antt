use Rattle.determinize_core.proofs.Common.{ap, arith, byte_of, step, tries, Value, ◌∙◌, ◌≡◌}
use Rattle.std.proofs.lemmas.Result.{on_ok_weaker}
use Rattle.determinize_core.proofs.step.Resolving.{step_resolves, targets_within}
use Rattle.determinize_core.proofs.step.StepParts.{step_tries, stepped}
use Rattle.determinize_core.proofs.determinize.transition.step_over.Goals as goal

pub returns-in_err-read_working_list-clause-bounded : goal.returns-in_err-read_working_list-clause-bounded
unfolding tries
returns-in_err-read_working_list-clause-bounded g c = λ h.
    omega (
      arith,
      c.read_working_list.ensures.bounded h,
      step_tries c.args.nfa.now c.read_working_list.ensures.accepted c.args.match_kind c.args.state.now
          (byte_of c.args.unit) c.requires.resolve,
    )

pub enter_targets-requires-clause-resolve : goal.enter_targets-requires-clause-resolve
enter_targets-requires-clause-resolve g c =
    rw c.in_ok-read_working_list.ensures.ok.targets_are
    (targets_within c.args.nfa.now c.read_working_list.ensures.accepted c.args.match_kind c.args.state.now
    (byte_of c.args.unit))

pub returns-clause-ok : goal.returns-clause-ok
returns-clause-ok g c =
    on_ok_weaker c.enter_targets.result (λ left. left ∙ stepped c.args.nfa.now c.args.match_kind c.args.state.now
    (byte_of c.args.unit) _ _ (ap (λ (v : Value). v.patterns) c.in_ok-read_working_list.ensures.ok.value_is)
    c.in_ok-read_working_list.ensures.ok.targets_are) c.enter_targets.ensures.ok

pub returns-clause-resolve : goal.returns-clause-resolve
returns-clause-resolve g c =
    on_ok_weaker c.enter_targets.result (λ left.
    let done : c.enter_targets.new.builder
    ≡ step c.args.nfa.now c.args.match_kind c.args.state.now (byte_of c.args.unit) =
    left ∙ stepped c.args.nfa.now c.args.match_kind c.args.state.now
    (byte_of c.args.unit) _ _ (ap (λ (v : Value). v.patterns) c.in_ok-read_working_list.ensures.ok.value_is)
    c.in_ok-read_working_list.ensures.ok.targets_are in
    rw done (step_resolves c.args.nfa.now c.read_working_list.ensures.accepted c.args.match_kind c.args.state.now
    (byte_of c.args.unit))) c.enter_targets.ensures.ok

pub returns-clause-counted : goal.returns-clause-counted
unfolding tries
returns-clause-counted g c = λ h.
    on_ok_weaker c.enter_targets.result (λ more. omega (
      arith,
      c.in_ok-read_working_list.ensures.counted h,
      rw c.in_ok-read_working_list.ensures.ok.targets_are at more,
    )) (c.enter_targets.ensures.counted h)

pub returns-clause-bounded : goal.returns-clause-bounded
unfolding tries
returns-clause-bounded g c = λ h.
    omega (
      arith,
      step_tries c.args.nfa.now c.read_working_list.ensures.accepted c.args.match_kind c.args.state.now
          (byte_of c.args.unit) c.requires.resolve,
      c.in_ok-read_working_list.ensures.counted h,
      rw c.in_ok-read_working_list.ensures.ok.targets_are at (c.enter_targets.ensures.bounded h),
    )
