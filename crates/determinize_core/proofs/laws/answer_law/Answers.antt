use Rattle.determinize_core.proofs.walk.AcceptedPatterns.{each_answer_is_one}
use Rattle.determinize_core.proofs.laws.answer_law.Goals as goal

pub returns : goal.returns
returns c = each_answer_is_one
