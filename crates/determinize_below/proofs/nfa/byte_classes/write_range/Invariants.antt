use Rattle.determinize_below.proofs.Common.{ℕ, ◌≡◌, ◌&&◌, cond, get_or, length, matches, nat_lt, None, Some}
use Rattle.determinize_below.proofs.nfa.byte_classes.write_range.Given as goal

abbrev pub invariant-loop-byte : goal.invariant-loop-byte
invariant-loop-byte l = record {
  count : length l.targets ≡ 256;
  written : (b : ℕ) → get_or l.targets b None
      ≡ cond (matches l.trans b && nat_lt b l.byte) (Some l.trans.next) (get_or l.initial.targets b None);
}
