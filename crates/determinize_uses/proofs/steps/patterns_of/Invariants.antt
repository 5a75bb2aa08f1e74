use Rattle.determinize_core.proofs.Common.{map, None, Some, take, true, ◌≡◌}
use Rattle.determinize_dense.specs.Table.{row_after, start_row}
use Rattle.determinize_uses.proofs.steps.patterns_of.Given as goal

-- the row is that after the bytes that are read
abbrev pub invariant-loop-byte : goal.invariant-loop-byte
invariant-loop-byte g l = record {
  row : l.row ≡ row_after l.dfa.table (start_row l.dfa.nfa l.dfa.table true None) (map Some (take l.byte-index l.text));
}
