use Rattle.determinize_below.proofs.Common.{◌<◌, ℕ, ◌≡◌, Decides, get_or, is_marked, length, None}
use Rattle.determinize_below.proofs.nfa.byte_classes.bytes_to.Given as goal

abbrev pub invariant-loop-byte : goal.invariant-loop-byte
invariant-loop-byte l = record {
  count : length l.inside ≡ 256;
  marked : (b : ℕ) → b < l.byte → Decides (is_marked l.inside b) (get_or l.targets b None ≡ l.target);
}
