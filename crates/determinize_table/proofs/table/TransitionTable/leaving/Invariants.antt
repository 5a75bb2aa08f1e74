use Rattle.std.specs.Prelude.{◌≡◌, length, slice_index_or}
use Rattle.determinize_core.specs.Value.{dead}
use Rattle.determinize_table.specs.Looping.{IsLoopOutside}
use Rattle.determinize_table.specs.Rows.{table_of}
use Rattle.determinize_table.proofs.table.TransitionTable.leaving.Given as goal

abbrev pub invariant-loop-byte : goal.invariant-loop-byte
invariant-loop-byte g l = record {
  count : length l.leaving ≡ 256;
  staying : IsLoopOutside (table_of l.self) (slice_index_or l.self.states l.id dead) l.leaving;
}
