use Rattle.determinize_below.proofs.Common.{edges, length, refl}
use Rattle.determinize_below.specs.Edges.{reach, reach_past}
use Rattle.determinize_below.proofs.nfas.SoundNfa.{accepted_sound}
use Rattle.ordered_reach.proofs.graph.FiniteReach.{each_reach_is_in_order, each_reach_is_in_turn, each_reach_is_one}
use Rattle.determinize_below.proofs.laws.nfa_reach_law.Goals as goal

-- the laws of a graph on numbers below a bound
pub returns : goal.returns
unfolding reach reach_past
returns c = record {
  in_order = λ nfa accepted holds.
      each_reach_is_in_order (edges nfa holds) (length nfa.states) ((accepted_sound nfa accepted).resolves holds);
  only = λ nfa accepted holds.
      each_reach_is_one (edges nfa holds) (length nfa.states) ((accepted_sound nfa accepted).resolves holds);
  in_turn = λ nfa accepted holds.
      each_reach_is_in_turn (edges nfa holds) (length nfa.states) ((accepted_sound nfa accepted).resolves holds);
  nothing_held = λ nfa holds roots. refl;
}
