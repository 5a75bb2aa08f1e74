use Rattle.determinize_syntax.proofs.Common.{◌<◌, ◌||◌, ◌≡◌, drop, has, has_char, ℕ}
use Rattle.determinize_syntax.proofs.class.bytes_of.Given as goal

abbrev pub invariant-loop-range : goal.invariant-loop-range
invariant-loop-range l =
    (c : ℕ) → c < 256 → (has l.bytes.items c || has_char (drop l.range-index l.ranges) c) ≡ has_char l.ranges c
