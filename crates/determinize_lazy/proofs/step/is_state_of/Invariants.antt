use Rattle.determinize_lazy.proofs.{AllResolve, length, ◌+◌, ◌≡◌, ◌≤◌}
use Rattle.determinize_lazy.proofs.step.is_state_of.Given as goal

abbrev pub invariant-loop-id : goal.invariant-loop-id
invariant-loop-id g l = record {
  all : AllResolve l.nfa l.id-iterator → AllResolve l.nfa l.state.states;
  rest : AllResolve l.nfa l.state.states → AllResolve l.nfa l.id-iterator;
  listed : l.listed + length l.id-iterator ≡ length l.state.states;
  few : l.listed ≤ l.count;
}
