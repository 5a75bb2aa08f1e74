use Rattle.determinize_find.proofs.streams.Begun.{each_certain_is_preferred}
use Rattle.determinize_find.proofs.laws.certain_law.Goals as goal

pub returns : goal.returns
returns c = each_certain_is_preferred
