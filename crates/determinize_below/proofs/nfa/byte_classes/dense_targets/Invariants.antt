use Rattle.determinize_below.proofs.Common.{◌<◌, ℕ, ◌≡◌, dense_target, get_or, length, None}
use Rattle.determinize_below.proofs.nfa.byte_classes.dense_targets.Given as goal

abbrev pub invariant-loop-byte : goal.invariant-loop-byte
invariant-loop-byte g l = record {
  count : length l.targets ≡ 256;
  written : (b : ℕ) → b < l.byte → get_or l.targets b None ≡ dense_target l.dense b;
}
