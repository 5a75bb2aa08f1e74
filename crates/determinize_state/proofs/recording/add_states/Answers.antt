use Rattle.std.proofs.lemmas.List.Elements.{All-rest}
use Rattle.determinize_state.proofs.Common.{◌∙◌, ◌<◌, ap, length, added_one, Value}
use Rattle.determinize_state.proofs.values.RecordingSteps.{added_one-after}
use Rattle.determinize_state.proofs.recording.add_states.Goals as goal

pub loop-id-preserved : goal.loop-id-preserved
loop-id-preserved g c = record {
  added_so_far = c.in_ok-add_state.ensures.ok
      ∙ ap (λ (v : Value). added_one c.args.nfa.now v c.in-Some.id) c.loop-id.invariant.added_so_far
      ∙ added_one-after c.args.nfa.now c.args.builder.now c.loop-id.yielded c.in-Some.id;
  left = All-rest (λ id. id < length c.args.nfa.now.states) _ _ _ c.in-Some.ensures.steps c.loop-id.invariant.left;
}
