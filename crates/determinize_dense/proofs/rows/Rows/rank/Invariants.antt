use Rattle.determinize_dense.proofs.Common.{◌*◌, ◌≤◌}
use Rattle.determinize_dense.proofs.rows.Rows.rank.Given as goal

abbrev pub invariant-loop-class : goal.invariant-loop-class
invariant-loop-class g l = l.staying ≤ 65535 * l.class
