use Rattle.std.proofs.Common.{◌≡◌, ℕ, ◌+◌, ◌<◌, get_or, length}
use Rattle.byte_set.specs.Tables.{IsEntry}
use Rattle.byte_set.proofs.tables.table.Given as goal

abbrev pub invariant-loop-low : goal.invariant-loop-low
invariant-loop-low l = record {
  count : length l.table ≡ 16;
  each : (k : ℕ) → k < l.low → IsEntry l.members (l.first + k) (get_or l.table k 0);
}
