use Rattle.std.proofs.Common.{◌≡◌, ◌*◌, ◌+◌, ◌-◌, ◌≤◌, ◌∙◌, ap, arith, length}
use Rattle.std.proofs.lemmas.Result.{IfOk-weaker}
use Rattle.determinize_below.specs.Semantics.{Text}
use Rattle.determinize_find.proofs.matches.OneList.{length-range}
use Rattle.determinize_linear.specs.Private.Following.{unmarked}
use Rattle.determinize_linear.proofs.walks.Walked.{steps_enough}
use Rattle.determinize_linear.proofs.dense.find_all_with.Goals as goal

pub find_all_by-requires-clause-ready : goal.find_all_by-requires-clause-ready
find_all_by-requires-clause-ready g c = λ k. (
  c.is_anchored.ensures.known,
  c.requires.kind,
  rw c.of_input-text.ensures at c.begin_alike-begin_alike.ensures,
  rw c.of_input-text.ensures at (c.in_ok-marks.ensures.walkable k),
)

pub returns-clause-linear : goal.returns-clause-linear
returns-clause-linear g c = λ k.
    let within : c.args.input.now.end ≤ length c.args.input.now.haystack
    = omega (arith, c.end.ensures.value, c.end.ensures.in_haystack) in
    let count : length c.of_input-text.result.bytes ≡ c.args.input.now.end - c.args.input.now.start
    = ap (λ (t : Text). length t.bytes) c.of_input-text.ensures ∙ length-range c.args.input.now within in
    let most : unmarked (g.D.Automaton.stored c.args.dfa.now).table c.of_input-text.result c.in_ok-marks.marks
    ≤ (c.args.input.now.end - c.args.input.now.start + 1) * length (g.D.Automaton.stored c.args.dfa.now).table.patterns
    = rw (← count) c.in_ok-marks.ensures.few in
    omega (
      arith,
      c.find_all_by.ensures.linear k,
      most,
      count,
      ap (λ (t : Text). length t.bytes) c.of_input-text.ensures,
      ap (λ (t : Text). unmarked (g.D.Automaton.stored c.args.dfa.now).table t c.in_ok-marks.marks)
          c.of_input-text.ensures,
      steps_enough (length (g.D.Automaton.stored c.args.dfa.now).table.patterns)
          (c.args.input.now.end - c.args.input.now.start),
    )

pub returns-clause-counted : goal.returns-clause-counted
returns-clause-counted g c = λ nfa f k free.
    IfOk-weaker c.find_all_by.result _ _ (λ found h. omega (arith, h, c.if-start-end.false))
    (c.find_all_by.ensures.counted k (c.is_anchored.ensures.value nfa f ∙ free))
