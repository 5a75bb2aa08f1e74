use Rattle.determinize_lazy.proofs.{All-cons, All-rest, ap, arith, length, rules, ◌<◌}
use Rattle.determinize_lazy.proofs.step.is_state_of.Goals as goal

pub loop-id-preserved : goal.loop-id-preserved
loop-id-preserved g c = record {
  all = λ left. c.loop-id.invariant.all (rw c.in-Some.ensures.steps
      (All-cons (λ id. id < length c.args.nfa.now.states) _ _ (search rules) left));
  rest = λ all. All-rest (λ id. id < length c.args.nfa.now.states) _ _ _ c.in-Some.ensures.steps
      (c.loop-id.invariant.rest all);
  listed = omega (arith, ap length c.in-Some.ensures.steps);
  few = search rules;
}
