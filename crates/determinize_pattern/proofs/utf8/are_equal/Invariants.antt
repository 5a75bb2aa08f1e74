use Rattle.std.proofs.Common.{◌≡◌, take}
use Rattle.determinize_pattern.proofs.utf8.are_equal.Given as goal

abbrev pub invariant-loop-i : goal.invariant-loop-i
invariant-loop-i l = take l.i l.one ≡ take l.i l.other
