use Rattle.std.proofs.Common.{◌≡◌, take}
use Rattle.determinize_pattern.specs.Private.Words.{words_from}
use Rattle.determinize_pattern.proofs.compiler.Compiler.words.Given as goal

abbrev pub invariant-loop-word : goal.invariant-loop-word
invariant-loop-word g l = words_from 0 l.all.items ≡ take l.word-index l.words
