use Rattle.determinize_dense.proofs.Common.{map, take, ◌*◌, ◌≡◌}
use Rattle.determinize_dense.proofs.rows.offsets_of.Given as goal

abbrev pub invariant-loop-row : goal.invariant-loop-row
invariant-loop-row g l = record {
  offsets : l.offsets.items ≡ map (λ row. row * l.columns) (take l.row-index l.rows);
}
