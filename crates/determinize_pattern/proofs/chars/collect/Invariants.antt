use Rattle.std.proofs.Common.{ℕ, ◌<◌, ◌≤◌, get_or, length, take}
use Rattle.determinize_pattern.specs.Characters.{char_pairs}
use Rattle.determinize_pattern.specs.Private.Characters.{IsSwept}
use Rattle.determinize_pattern.specs.declared.chars.ClassUnicodeRange.{ClassUnicodeRange}
use Rattle.determinize_pattern.specs.declared.chars.TheConstants.{PAST}
use Rattle.determinize_pattern.proofs.chars.collect.Given as goal

abbrev pub invariant-loop-range : goal.invariant-loop-range
invariant-loop-range l = record {
  lowest : (k : ℕ) (d : ClassUnicodeRange) → l.range-index ≤ k → k < length l.range-items
      → l.start ≤ (get_or l.range-items k d).start;
  within : l.end ≤ PAST;
  swept : IsSwept (char_pairs (take l.range-index l.range-items)) l.negated l.start l.end
      l.runs.items;
}
