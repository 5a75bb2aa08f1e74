use Rattle.ordered_reach.proofs.walks.FirstLabels.{label_listed, first_preferred}
use Rattle.ordered_reach.proofs.walks.LoopFreeWalks.{walk_is_path}
use Rattle.ordered_reach.proofs.laws.walks_law.Goals as goal

pub returns-clause-listed : goal.returns-clause-listed
returns-clause-listed c = label_listed

pub returns-clause-preferred : goal.returns-clause-preferred
returns-clause-preferred c = first_preferred

pub returns-clause-loop_free : goal.returns-clause-loop_free
returns-clause-loop_free c = walk_is_path
