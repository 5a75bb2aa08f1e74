use Rattle.std.proofs.Common.{◌≡◌, ◌*◌, ◌≤◌, ◌-◌, ◌+◌, arith, length}
use Rattle.determinize_linear.specs.Private.Following.{unmarked}
use Rattle.determinize_linear.proofs.walks.Walked.{steps_enough}
use Rattle.determinize_linear.proofs.dense.Searcher.new.Goals as goal

pub returns-clause-linear : goal.returns-clause-linear
returns-clause-linear g c =
    let count : length c.new-cursor.result.text.bytes ≡ c.args.input.now.end - c.args.input.now.start
    = rw c.new-cursor.ensures.asked at c.new-cursor.ensures.inside.count in
    let few : unmarked (g.D.Automaton.stored c.args.dfa.now).table c.new-cursor.result.text c.in_ok-marks.marks
    ≤ (c.args.input.now.end - c.args.input.now.start + 1) * length (g.D.Automaton.stored c.args.dfa.now).table.patterns
    = rw (← count, ← c.text-text.ensures) c.in_ok-marks.ensures.few in
    omega (
      arith,
      few,
      count,
      steps_enough (length (g.D.Automaton.stored c.args.dfa.now).table.patterns)
          (c.args.input.now.end - c.args.input.now.start),
    )

pub invariant_of-result : goal.invariant_of-result
invariant_of-result g c = record {
  known = c.is_anchored.ensures.known;
  kind = c.requires.kind;
  alike = rw c.text-text.ensures at c.begin_alike-begin_alike.ensures;
  walkable = λ k l. rw c.text-text.ensures at (c.in_ok-marks.ensures.walkable k);
  inside = c.new-cursor.ensures.inside;
  cursor = λ nfa f. c.new-cursor.ensures.cursor nfa (c.is_anchored.ensures.value nfa f);
}
