use Rattle.std.proofs.Common.{All, take}
use Rattle.determinize_pattern.specs.Private.Words.{HasByte, words_from}
use Rattle.determinize_pattern.proofs.prefix_tree.count_longer.Given as goal

abbrev pub invariant-loop-i : goal.invariant-loop-i
invariant-loop-i g l = All HasByte (words_from l.place (take l.i l.words))
