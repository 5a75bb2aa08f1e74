use Rattle.determinize_below.proofs.Common.{arith, false, nat_tests, Bool}
use Rattle.std.proofs.lemmas.List.{length-replicate}
use Rattle.determinize_below.proofs.Written.{replicated}
use Rattle.determinize_below.proofs.nfa.byte_classes.bytes_within.Goals as goal

pub loop-byte-init : goal.loop-byte-init
loop-byte-init c = record {
  count = length-replicate {A = Bool} 256 false;
  marked = λ b. grind (arith, nat_tests, replicated 256 b false);
}

pub returns : goal.returns
returns c = λ b h. grind (arith, nat_tests, c.loop-byte.invariant.marked b)
