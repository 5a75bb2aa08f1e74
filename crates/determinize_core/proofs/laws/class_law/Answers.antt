use Rattle.determinize_core.proofs.step.AlikeBytes.{each_class_steps, each_need_is_tested}
use Rattle.determinize_core.proofs.laws.class_law.Goals as goal

pub returns : goal.returns
returns c = record { steps = each_class_steps; needs = each_need_is_tested }
