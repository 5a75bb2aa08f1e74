use Rattle.determinize_core.proofs.Common.{All-rest, arith, ◌<◌}
use Rattle.determinize_core.proofs.step.ReopenedClosure.{distinct-push}
use Rattle.determinize_core.proofs.determinize.working_list.collect_states.Goals as goal

pub loop-id-preserved : goal.loop-id-preserved
loop-id-preserved g c = record {
  ids = grind (arith, distinct-push);
  capacity = grind arith;
  left = All-rest (λ id. id < c.args.set.now.capacity) _ _ _ c.in-Some.ensures.steps c.loop-id.invariant.left;
}
