use Rattle.std.proofs.Common.{◌≡◌, ◌+◌, ◌-◌, ◌≤◌, ◌++◌, ◌∷◌, ◌∙◌, [], ap, arith, length}
use Rattle.std.proofs.Math.Nat.{min-le_right}
use Rattle.std.proofs.lemmas.List.{length-append}
use Rattle.std.specs.Option.{IfSome}
use Rattle.determinize_below.specs.Semantics.{Text}
use Rattle.determinize_below.specs.declared.search.HalfMatch.{HalfMatch}
use Rattle.determinize_find.specs.Matches.{from}
use Rattle.determinize_find.proofs.matches.OneList.{length-range}
use Rattle.determinize_linear.specs.Private.Paid.{in_haystack}
use Rattle.determinize_linear.proofs.tokens.Tokens.{all_tokens, begins, is_token, more_tokens, no_token, none_longer}
use Rattle.determinize_linear.proofs.tokens.Tokens.{end_of_last-push, position_within, steps_before, steps_of_all}
use Rattle.determinize_linear.proofs.lexer.tokens_with.Goals.{in_default-via-in-Some+else-next-at}
use Rattle.determinize_linear.proofs.lexer.tokens_with.Goals.{in_default-via-in_default}
use Rattle.determinize_linear.proofs.lexer.tokens_with.Goals as goal

pub returns-then-base-end-clause-tokens : goal.returns-then-base-end-clause-tokens
returns-then-base-end-clause-tokens g c = λ nfa of.
    let within : c.args.input.now.end ≤ length c.args.input.now.haystack
    = omega (arith, c.end.ensures.value, c.end.ensures.in_haystack) in
    let past : c.args.input.now.end ≤ c.args.input.now.start
    = omega (arith, c.end.ensures.value, c.start-base.ensures.value, c.if-base-end.true) in
    rw c.new-found.ensures.items (no_token nfa c.args.input.now within past)

pub loop-at-init : goal.loop-at-init
loop-at-init g c = record {
  first = λ nfa of. rw c.new-found.ensures.items (begins nfa c.args.input.now);
  high = omega arith;
  walkable = λ k l. c.in_ok-marks.ensures.walkable k;
  paid = λ k. omega (arith, c.in_ok-marks.ensures.few);
  last = rw c.new-found.ensures.items (omega arith);
  counted = λ k. rw c.new-found.ensures.items (omega arith);
}

pub loop-at-preserved : goal.loop-at-preserved
loop-at-preserved g c =
    let within : c.args.input.now.end ≤ length c.args.input.now.haystack
    = omega (arith, c.end.ensures.value, c.end.ensures.in_haystack) in
    let order : c.args.input.now.start ≤ c.args.input.now.end
    = omega (arith, c.end.ensures.value, c.start-base.ensures.value, c.if-base-end.false) in
    let here = position_within c.args.input.now c.of_input-text.result c.loop-at.at c.of_input-text.ensures within order
    c.loop-at.invariant.high in
    let items : c.push_moved.new.found.items
    ≡ c.loop-at.found.items ++ in_haystack c.args.input.now.start c.loop-at.at c.in-Some.next ∷ []
    = rw c.start-base.ensures.value at c.in_ok-push_moved-in-Some.ensures in
    record {
      first = λ nfa of. rw items (more_tokens nfa c.args.input.now (c.args.input.now.start + c.loop-at.at)
          c.loop-at.found.items (in_haystack c.args.input.now.start c.loop-at.at c.in-Some.next)
          (c.loop-at.invariant.first nfa of)
          (is_token nfa c.args.input.now c.of_input-text.result c.loop-at.at c.of_input-text.ensures here
          c.in-Some.next ((c.in-Some.ensures.found nfa of).longest c.requires.kind) c.if-next-at.true));
      high = c.in-Some.ensures.walked.within;
      walkable = c.in-Some.ensures.walked.walkable;
      paid = λ k. omega (arith, c.in-Some.ensures.walked.cost, c.loop-at.invariant.paid k, c.if-next-at.true);
      last = rw items (end_of_last-push c.args.input.now.start c.loop-at.found.items
          (in_haystack c.args.input.now.start c.loop-at.at c.in-Some.next));
      counted = λ k. rw items (omega (
        arith,
        length-append c.loop-at.found.items (in_haystack c.args.input.now.start c.loop-at.at c.in-Some.next ∷ []),
        c.in-Some.ensures.counted k,
        c.loop-at.invariant.counted k,
      ));
    }

pub returns-in_default-clause-tokens : goal.returns-in_default-clause-tokens
returns-in_default-clause-tokens g c = λ nfa of.
    let within : c.args.input.now.end ≤ length c.args.input.now.haystack
    = omega (arith, c.end.ensures.value, c.end.ensures.in_haystack) in
    let order : c.args.input.now.start ≤ c.args.input.now.end
    = omega (arith, c.end.ensures.value, c.start-base.ensures.value, c.if-base-end.false) in
    let here = position_within c.args.input.now c.of_input-text.result c.loop-at.at c.of_input-text.ensures within order
    c.loop-at.invariant.high in
    let empty : IfSome c.walk_from.result (λ (m : HalfMatch). m.offset ≤ c.loop-at.at) = elim c.in_default.branch [
      | in_default-via-in-Some+else-next-at w ↦ rw w.in-Some.is (omega (arith, w.if-next-at.false))
      | in_default-via-in_default w ↦ rw w.in_default.is tt
    ] in
    all_tokens nfa c.args.input.now (c.args.input.now.start + c.loop-at.at) c.loop-at.found.items
    (c.loop-at.invariant.first nfa of)
    (none_longer nfa c.args.input.now c.of_input-text.result c.loop-at.at c.of_input-text.ensures here
    c.walk_from.result ((c.walk_from.ensures.found nfa of).longest c.requires.kind) empty)

pub returns-clause-tokens : goal.returns-clause-tokens
returns-clause-tokens g c = λ nfa of.
    let within : c.args.input.now.end ≤ length c.args.input.now.haystack
    = omega (arith, c.end.ensures.value, c.end.ensures.in_haystack) in
    let count : length c.of_input-text.result.bytes ≡ c.args.input.now.end - c.args.input.now.start
    = ap (λ (t : Text). length t.bytes) c.of_input-text.ensures ∙ length-range c.args.input.now within in
    all_tokens nfa c.args.input.now (c.args.input.now.start + c.loop-at.at) c.loop-at.found.items
    (c.loop-at.invariant.first nfa of)
    (no_token nfa (from c.args.input.now (c.args.input.now.start + c.loop-at.at)) within
    (omega (arith, count, c.len.ensures.value, c.loop-at-test.false)))

pub returns-then-base-end-clause-counted : goal.returns-then-base-end-clause-counted
returns-then-base-end-clause-counted g c = λ k.
    let past : c.args.input.now.end ≤ c.args.input.now.start
    = omega (arith, c.end.ensures.value, c.start-base.ensures.value, c.if-base-end.true) in
    rw c.new-found.ensures.items (omega (arith, min-le_right (c.args.input.now.start + 1) c.args.input.now.end, past))

pub returns-in_default-clause-counted : goal.returns-in_default-clause-counted
returns-in_default-clause-counted g c = λ k. omega (
  arith,
  steps_before c.args.input.now c.loop-at.found.items c.loop-at.at c.loop-at.invariant.last,
  c.loop-at.invariant.counted k,
  c.walk_from.ensures.counted k,
  c.walk_from.ensures.walked.order,
)

pub returns-clause-counted : goal.returns-clause-counted
returns-clause-counted g c = λ k.
    let within : c.args.input.now.end ≤ length c.args.input.now.haystack
    = omega (arith, c.end.ensures.value, c.end.ensures.in_haystack) in
    let count : length c.of_input-text.result.bytes ≡ c.args.input.now.end - c.args.input.now.start
    = ap (λ (t : Text). length t.bytes) c.of_input-text.ensures ∙ length-range c.args.input.now within in
    let past : c.args.input.now.end ≤ c.args.input.now.start + c.loop-at.at
    = omega (arith, count, c.len.ensures.value, c.loop-at-test.false) in
    omega (
      arith,
      steps_of_all c.args.input.now c.loop-at.found.items c.loop-at.at past,
      c.loop-at.invariant.counted k,
    )
