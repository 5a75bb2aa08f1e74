use Rattle.determinize_dense.proofs.Common.{length, ◌≡◌}
use Rattle.determinize_dense.specs.Private.Scans.{IsStaying}
use Rattle.determinize_dense.proofs.rows.Rows.leaving.Given as goal

abbrev pub invariant-loop-byte : goal.invariant-loop-byte
invariant-loop-byte g l = record {
  count : length l.leaving ≡ 256;
  staying : IsStaying l.self.table l.row l.leaving;
}
