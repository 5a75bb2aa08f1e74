use Rattle.determinize_below.proofs.Common.{arith, nat_tests}
use Rattle.determinize_below.proofs.nfa.byte_classes.write_range.Goals as goal

pub returns : goal.returns
returns c = λ b h. grind (arith, nat_tests, c.loop-byte.invariant.written b)
