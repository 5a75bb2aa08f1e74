use Rattle.determinize_dense.proofs.Pigeonhole.{each_count_is_one}
use Rattle.determinize_dense.proofs.laws.states_law.Goals as goal

pub returns : goal.returns
returns c = each_count_is_one
