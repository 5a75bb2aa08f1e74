use Rattle.determinize_below.proofs.Common.{arith, ◌<◌, ◌∙◌}
use Rattle.determinize_below.proofs.sets.WordBytes.{word_bits}
use Rattle.determinize_below.proofs.alphabet.is_word_byte.Goals as goal

pub returns : goal.returns
returns c = let small : c.args.byte < 256 = omega arith in c.is_bit_set.ensures ∙ word_bits c.args.byte small
