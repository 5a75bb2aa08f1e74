use Rattle.determinize_dense.proofs.Common.{bytes_of_words, drop, ◌++◌, ◌≡◌}
use Rattle.determinize_dense.proofs.bytes.push_classes.Given as goal

abbrev pub invariant-loop-byte : goal.invariant-loop-byte
invariant-loop-byte g l = record {
  rest : l.bytes.items ++ bytes_of_words (drop l.byte l.fn.classes.of_bytes)
      ≡ l.fn.bytes.items ++ bytes_of_words l.fn.classes.of_bytes;
}
