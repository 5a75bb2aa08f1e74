use Rattle.determinize_dense.proofs.Common.{bytes_of_words, drop, ◌++◌, ◌≡◌}
use Rattle.determinize_dense.proofs.bytes.push_words.Given as goal

abbrev pub invariant-loop-word : goal.invariant-loop-word
invariant-loop-word g l = record {
  rest : l.bytes.items ++ bytes_of_words (drop l.word-index l.words) ≡ l.fn.bytes.items ++ bytes_of_words l.words;
}
