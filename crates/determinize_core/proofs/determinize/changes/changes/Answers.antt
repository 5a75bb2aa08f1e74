use Rattle.determinize_core.proofs.Common.{All-rest, length, ◌<◌}
use Rattle.determinize_core.proofs.step.SharedSteps.{changes-push}
use Rattle.determinize_core.proofs.determinize.changes.changes.Goals as goal

pub loop-id-preserved : goal.loop-id-preserved
loop-id-preserved g c = record {
  changes = changes-push c.args.nfa.now c.loop-id.yielded c.in-Some.id c.loop-id.marks c.mark_changes.new.marks
      c.loop-id.invariant.changes c.mark_changes.ensures;
  left = All-rest (λ id. id < length c.args.nfa.now.states) _ _ _ c.in-Some.ensures.steps c.loop-id.invariant.left;
}
