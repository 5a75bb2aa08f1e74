use Rattle.determinize_state.proofs.values.TestedSets.{Decides-needs}
use Rattle.determinize_core.proofs.laws.need_law.Goals as goal

pub returns : goal.returns
returns c nfa xs = Decides-needs nfa c.args.set xs c.args.look
