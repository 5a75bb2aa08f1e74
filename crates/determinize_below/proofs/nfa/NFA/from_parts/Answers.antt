use Rattle.determinize_below.proofs.Common.{None, Some, ap, arith, by_cases, length, map, node_of, refl, sym, ◌≡◌, ◌⊎◌}
use Rattle.determinize_below.proofs.Common.{◌∙◌}
use Rattle.std.proofs.Common.{inl, inr}
use Rattle.std.proofs.lemmas.Result.{IfOk-from_err}
use Rattle.determinize_below.specs.Nfa.{failure}
use Rattle.determinize_below.specs.declared.nfa.BuildError.{BuildError}
use Rattle.determinize_below.specs.declared.nfa.BuildError.TheVariants.{OutOfMemory}
use Rattle.determinize_below.proofs.Exits.{if_err_and}
use Rattle.determinize_below.proofs.nfas.Failures.{after_starts, no_start, too_many}
use Rattle.determinize_below.proofs.nfa.NFA.from_parts.Goals.{then-as_usize-count-via-then-as_usize-count}
use Rattle.determinize_below.proofs.nfa.NFA.from_parts.Goals.{then-as_usize-count-via-else-as_usize-count+then-as_usize-count-2}
use Rattle.determinize_below.proofs.nfa.NFA.from_parts.Goals as goal

pub returns-then-count-gt-ID_LIMIT-clause-err : goal.returns-then-count-gt-ID_LIMIT-clause-err
returns-then-count-gt-ID_LIMIT-clause-err g c =
    let count : c.len-count.result ≡ length c.args.states.items = omega (arith, c.len-count.ensures) in
    inl (too_many node_of c.args.states.items c.len-count.result c.args.start_anchored c.args.start_unanchored count
    c.if-count-gt-ID_LIMIT.true)

pub returns-in_err-check_states-clause-err : goal.returns-in_err-check_states-clause-err
returns-in_err-check_states-clause-err g c =
    let count : c.len-count.result ≡ length c.args.states.items = omega (arith, c.len-count.ensures) in
    let first = after_starts node_of c.args.states.items c.len-count.result c.args.start_anchored
    c.args.start_unanchored count c.if-count-gt-ID_LIMIT.false
    (omega (arith, c.as_usize.ensures.value, c.if-as_usize-count.false))
    (omega (arith, c.as_usize-else-as_usize-count.ensures.value, c.if-as_usize-count-2.false))
    c.as_slice.result.now c.as_slice.ensures.value in
    if_err_and c.from_residual.result (λ (e : BuildError). e ≡ c.in_err-check_states.field-0.0)
    (λ (e : BuildError).
    (failure (map node_of c.args.states.items) c.args.start_anchored c.args.start_unanchored ≡ Some e)
    ⊎ (e ≡ OutOfMemory))
    (λ e h. by_cases c.in_err-check_states.ensures.err (λ k. inl (first ∙ k ∙ ap Some (sym h))) (λ k. inr (h ∙ k)))
    c.from_residual.ensures.1

pub returns-clause-ok : goal.returns-clause-ok
returns-clause-ok g c =
    rw (c.looks_in-look_set_any.ensures, c.as_slice-2.ensures.value) refl

accepted : (g : _) (c : goal.After-looks_in-look_set_any g)
    → failure (map node_of c.args.states.items) c.args.start_anchored c.args.start_unanchored ≡ None
accepted g c =
    let count : c.len-count.result ≡ length c.args.states.items = omega (arith, c.len-count.ensures) in
    after_starts node_of c.args.states.items c.len-count.result c.args.start_anchored
    c.args.start_unanchored count c.if-count-gt-ID_LIMIT.false
    (omega (arith, c.as_usize.ensures.value, c.if-as_usize-count.false))
    (omega (arith, c.as_usize-else-as_usize-count.ensures.value, c.if-as_usize-count-2.false))
    c.as_slice.result.now c.as_slice.ensures.value
    ∙ c.in_ok-check_states.ensures.ok

pub returns-clause-accepted : goal.returns-clause-accepted
returns-clause-accepted g c = accepted g c

pub invariant_of-result : goal.invariant_of-result
invariant_of-result g c = record {
  passes = accepted g c;
  looks = rw (c.looks_in-look_set_any.ensures, c.as_slice-2.ensures.value) refl;
}

pub returns-clause-limit : goal.returns-clause-limit
returns-clause-limit g c = λ many.
    absurd (omega (arith, many, c.len-count.ensures, c.if-count-gt-ID_LIMIT.false))

pub returns-clause-starts : goal.returns-clause-starts
returns-clause-starts g c = λ few past. absurd (by_cases past
    (λ h. omega (arith, h, c.len-count.ensures, c.as_usize.ensures.value, c.if-as_usize-count.false))
    (λ h. omega (
      arith,
      h,
      c.len-count.ensures,
      c.as_usize-else-as_usize-count.ensures.value,
      c.if-as_usize-count-2.false,
    )))

pub returns-in_err-check_states-clause-limit : goal.returns-in_err-check_states-clause-limit
returns-in_err-check_states-clause-limit g c = λ many.
    absurd (omega (arith, many, c.len-count.ensures, c.if-count-gt-ID_LIMIT.false))

pub returns-in_err-check_states-clause-starts : goal.returns-in_err-check_states-clause-starts
returns-in_err-check_states-clause-starts g c = λ few past. absurd (by_cases past
    (λ h. omega (arith, h, c.len-count.ensures, c.as_usize.ensures.value, c.if-as_usize-count.false))
    (λ h. omega (
      arith,
      h,
      c.len-count.ensures,
      c.as_usize-else-as_usize-count.ensures.value,
      c.if-as_usize-count-2.false,
    )))

pub returns-then-as_usize-count-clause-err : goal.returns-then-as_usize-count-clause-err
returns-then-as_usize-count-clause-err g c =
    let count : c.len-count.result ≡ length c.args.states.items = omega (arith, c.len-count.ensures) in
    let error = no_start node_of c.args.states.items c.len-count.result c.args.start_anchored c.args.start_unanchored
    count c.if-count-gt-ID_LIMIT.false in
    elim c.then-as_usize-count.branch [
      | then-as_usize-count-via-then-as_usize-count w ↦
          inl (error (inl (omega (arith, w.if-as_usize-count.true, c.as_usize.ensures.value))))
      | then-as_usize-count-via-else-as_usize-count+then-as_usize-count-2 w ↦ inl (error
          (inr (omega (arith, w.if-as_usize-count-2.true, w.as_usize-else-as_usize-count.ensures.value))))
    ]

pub returns-in_err-check_states-clause-accepted : goal.returns-in_err-check_states-clause-accepted
returns-in_err-check_states-clause-accepted g c = IfOk-from_err c.from_residual.result _ c.from_residual.ensures.0
