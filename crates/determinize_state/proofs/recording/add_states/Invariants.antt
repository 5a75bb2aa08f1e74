use Rattle.determinize_state.proofs.Common.{◌≡◌, ◌<◌, All, length, is_capture, without, added}
use Rattle.determinize_state.proofs.recording.add_states.Given as goal

abbrev pub invariant-loop-id : goal.invariant-loop-id
invariant-loop-id g l = record {
  added_so_far : l.builder ≡ added l.nfa l.initial.builder (without (is_capture l.nfa) l.yielded);
  left : All (λ id. id < length l.nfa.states) l.id-iterator;
}
