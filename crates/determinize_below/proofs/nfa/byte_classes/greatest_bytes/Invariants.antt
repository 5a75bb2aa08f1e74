use Rattle.determinize_below.proofs.Common.{◌<◌, ◌≡◌, ◌≤◌, ℕ, get_or, length}
use Rattle.determinize_below.proofs.nfa.byte_classes.greatest_bytes.Given as goal

abbrev pub invariant-loop-byte : goal.invariant-loop-byte
invariant-loop-byte l = record {
  count : length l.greatest ≡ 256;
  bound : (b : ℕ) → b < l.byte → b ≤ get_or l.greatest (get_or l.least b 0) 0;
}
