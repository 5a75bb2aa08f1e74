use Rattle.std.proofs.Common.{◌≡◌, ◌+◌, take}
use Rattle.determinize_pattern.specs.Private.Words.{rests_after, words_from}
use Rattle.determinize_pattern.proofs.compiler.Compiler.with_byte.Given as goal

abbrev pub invariant-loop-word : goal.invariant-loop-word
invariant-loop-word g l = words_from (l.place + 1) l.found.items
    ≡ rests_after l.byte (words_from l.place (take l.word-index l.words))
