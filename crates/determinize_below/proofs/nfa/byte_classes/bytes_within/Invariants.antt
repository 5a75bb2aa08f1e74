use Rattle.determinize_below.proofs.Common.{ℕ, ◌≡◌, ◌&&◌, nat_lt, is_marked, length}
use Rattle.determinize_below.specs.Semantics.{within}
use Rattle.determinize_below.proofs.nfa.byte_classes.bytes_within.Given as goal

abbrev pub invariant-loop-byte : goal.invariant-loop-byte
invariant-loop-byte l = record {
  count : length l.inside ≡ 256;
  marked : (b : ℕ) → is_marked l.inside b ≡ (within l.start l.end b && nat_lt b l.byte);
}
