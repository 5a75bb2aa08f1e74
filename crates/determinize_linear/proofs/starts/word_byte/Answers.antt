use Rattle.std.proofs.Common.{arith, refl}
use Rattle.std.proofs.lemmas.Bool.Decides.{nat_tests}
use Rattle.determinize_below.specs.Semantics.{is_word_byte}
use Rattle.determinize_linear.proofs.starts.word_byte.Goals as goal

pub returns-then-terminator-eq97 : goal.returns-then-terminator-eq97
unfolding is_word_byte
returns-then-terminator-eq97 c = rw c.if-terminator-eq97.true refl

pub returns-else-terminator-eq97 : goal.returns-else-terminator-eq97
unfolding is_word_byte
returns-else-terminator-eq97 c = grind (arith, nat_tests, c.if-terminator-eq97.false)
