use Rattle.determinize_dense.proofs.Common.{is_anchored, IsRowAt, map, row_after, Some, start_row, take}
use Rattle.determinize_dense.proofs.dfa.Dfa.patterns_after.Given as goal

abbrev pub invariant-loop-byte : goal.invariant-loop-byte
invariant-loop-byte g l = record {
  at : IsRowAt l.self.table l.row (row_after l.self.table (start_row l.self.nfa l.self.table (is_anchored l.fn.anchored)
      l.fn.look_behind) (map Some (take l.byte-index l.text)));
}
