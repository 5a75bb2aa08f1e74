use Rattle.determinize_linear.proofs.walks.Unset.{bit_set}
use Rattle.determinize_linear.proofs.row_marks.set_bit.Goals as goal

pub returns : goal.returns
returns c = λ other. bit_set c.args.words.now c.args.first c.args.index other c.requires
