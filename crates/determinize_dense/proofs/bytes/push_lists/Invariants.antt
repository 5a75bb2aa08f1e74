use Rattle.determinize_dense.proofs.Common.{bytes_of_words, concat, get_or, map, MAX_ID, take, [], ◌++◌, ◌≡◌, ◌≤◌}
use Rattle.std.specs.Prelude.{All}
use Rattle.determinize_dense.proofs.bytes.push_lists.Given as goal

abbrev pub invariant-loop-list : goal.invariant-loop-list
invariant-loop-list g l = record {
  written : l.bytes.items ≡ l.fn.bytes.items
      ++ bytes_of_words (concat (take l.list-index (map (λ list. list.items) l.lists)));
  ids : All (λ id. id ≤ MAX_ID) (concat (take l.list-index (map (λ list. list.items) l.lists)));
}

abbrev pub invariant-loop-pattern : goal.invariant-loop-pattern
invariant-loop-pattern g l = record {
  items : l.pattern-items ≡ get_or (map (λ list. list.items) l.lists) l.list-index [];
  written : l.bytes.items ≡ l.fn.bytes.items ++ bytes_of_words
      (concat (take l.list-index (map (λ list. list.items) l.lists)) ++ take l.pattern-index l.pattern-items);
  ids : All (λ id. id ≤ MAX_ID)
      (concat (take l.list-index (map (λ list. list.items) l.lists)) ++ take l.pattern-index l.pattern-items);
}
