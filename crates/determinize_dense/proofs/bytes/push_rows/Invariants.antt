use Rattle.determinize_dense.proofs.Common.{bytes_of_words, drop, rows_at, ◌++◌, ◌≡◌}
use Rattle.determinize_dense.proofs.bytes.push_rows.Given as goal

abbrev pub invariant-loop-offset : goal.invariant-loop-offset
invariant-loop-offset g l = record {
  rest : l.bytes.items ++ bytes_of_words (drop l.offset-index (rows_at l.columns l.offsets))
      ≡ l.fn.bytes.items ++ bytes_of_words (rows_at l.columns l.offsets);
}
