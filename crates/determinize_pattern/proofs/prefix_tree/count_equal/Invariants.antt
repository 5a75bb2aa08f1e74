use Rattle.std.proofs.Common.{◌≡◌, take}
use Rattle.determinize_pattern.proofs.prefix_tree.count_equal.Given as goal

abbrev pub invariant-loop-i : goal.invariant-loop-i
invariant-loop-i l = take l.i l.other ≡ take l.i l.one
