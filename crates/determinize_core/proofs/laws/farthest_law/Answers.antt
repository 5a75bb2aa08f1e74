use Rattle.determinize_core.proofs.walk.Farthest.{each_last_is_farthest, no_run_leaves_the_text}
use Rattle.determinize_core.proofs.laws.farthest_law.Goals as goal

pub returns : goal.returns
returns c = record { farthest = each_last_is_farthest; within = no_run_leaves_the_text }
