use Rattle.determinize_syntax.proofs.Common.{◌&&◌, ◌||◌, char_pairs, drop, has, has_char, nat_lt}
use Rattle.determinize_syntax.proofs.Characters.{IsAdding}
use Rattle.determinize_syntax.proofs.bracket.Items.add_class.Given as goal

abbrev pub invariant-loop-range : goal.invariant-loop-range
invariant-loop-range l = IsAdding (char_pairs l.self.ranges.items) (drop l.range-index l.ranges)
    (λ c. has_char l.fn.self.ranges.items c || (nat_lt c 128 && has l.ranges c))
