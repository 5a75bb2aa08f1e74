-- The value of a `Searcher` in contracts.
use Rattle.std.specs.Prelude.{ℕ}
use Rattle.determinize_find.specs.Cursors as find

-- a cursor over all matches by a DFA: the rest of the input, and where the match before it ended
-- (`cursor`), the index from which the next call searches (`next`), and at least the number of
-- steps of all calls to come (`left`)
pub record SearcherValue (D : Type 0) : Type 0 where
  pub dfa : D
  pub cursor : find.SearcherValue
  pub next : ℕ
  pub left : ℕ
