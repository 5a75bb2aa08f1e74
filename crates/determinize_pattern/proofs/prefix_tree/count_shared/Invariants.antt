use Rattle.std.proofs.Common.{◌≤◌, All, length, take}
use Rattle.determinize_pattern.specs.Private.Words.{SharesPrefix, words_from}
use Rattle.determinize_pattern.proofs.prefix_tree.count_shared.Given as goal

abbrev pub invariant-loop-word : goal.invariant-loop-word
invariant-loop-word g l =
    All (SharesPrefix (take l.count l.bytes)) (words_from l.place (take l.word-index l.words))
    × (l.count ≤ length l.bytes)
