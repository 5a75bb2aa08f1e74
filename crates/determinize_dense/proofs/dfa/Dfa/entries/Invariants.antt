use Rattle.determinize_dense.proofs.Common.{rows_at, take, ◌≡◌}
use Rattle.determinize_dense.proofs.dfa.Dfa.entries.Given as goal

abbrev pub invariant-loop-offset : goal.invariant-loop-offset
invariant-loop-offset g l = record {
  all : rows_at l.columns l.offset-items ≡ l.fn.self.table.next;
  rows : l.entries.items ≡ rows_at l.columns (take l.offset-index l.offset-items);
}
