use Rattle.determinize_below.proofs.Common.{◌≡◌, ◌+◌, ◌<◌, ℕ, false, is_marked, dense_target}
use Rattle.determinize_below.proofs.nfa.changes.mark_targets.Given as goal

abbrev pub invariant-loop-byte : goal.invariant-loop-byte
invariant-loop-byte l = record {
  was : (b : ℕ) → is_marked l.marks b ≡ false → is_marked l.initial.marks b ≡ false;
  same : (b : ℕ) → b + 1 < l.byte → is_marked l.marks (b + 1) ≡ false
      → dense_target l.targets b ≡ dense_target l.targets (b + 1);
}
