use Rattle.determinize_dense.proofs.Common.{bytes_of_words, concat, drop, ends_from, length, map, ◌++◌, ◌+◌, ◌<◌, ◌^◌}
use Rattle.determinize_dense.proofs.Common.{◌≡◌}
use Rattle.determinize_dense.proofs.bytes.push_ends.Given as goal

abbrev pub invariant-loop-list : goal.invariant-loop-list
invariant-loop-list g l = record {
  small : l.end < 2 ^ 32;
  sum : l.end + length (concat (drop l.list-index (map (λ list. list.items) l.lists)))
      ≡ length (concat (map (λ list. list.items) l.lists));
  rest : l.bytes.items ++ bytes_of_words (ends_from l.end (drop l.list-index (map (λ list. list.items) l.lists)))
      ≡ l.fn.bytes.items ++ bytes_of_words (ends_from 0 (map (λ list. list.items) l.lists));
}
