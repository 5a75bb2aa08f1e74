use Rattle.determinize_below.proofs.nfas.TestedLooks.{Decides-looks_of, Decides-look_set_any}
use Rattle.determinize_below.proofs.look_laws.look_state_law.Goals as goal

pub returns-clause-states : goal.returns-clause-states
returns-clause-states c states = Decides-looks_of states c.args.look

pub returns-clause-nfa : goal.returns-clause-nfa
returns-clause-nfa c nfa accepted = Decides-look_set_any nfa accepted c.args.look
