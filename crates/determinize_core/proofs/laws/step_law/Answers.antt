use Rattle.determinize_core.proofs.step.StepLaws.{dead_stays, each_future_follows, leftmost_gives_one, no_need_no_have}
use Rattle.determinize_core.proofs.laws.step_law.Goals as goal

pub returns : goal.returns
returns c = record {
  future = each_future_follows;
  dead = dead_stays;
  settled = no_need_no_have;
  leftmost = leftmost_gives_one;
}
