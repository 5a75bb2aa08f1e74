use Rattle.determinize_dense.proofs.Common.{columns_of, HasChanges, IfSome, IsBase, length, Stays, ◌*◌, ◌+◌, ◌≡◌}
use Rattle.determinize_dense.proofs.build.Builder.add_row.Given as goal

abbrev pub invariant-loop-column : goal.invariant-loop-column
invariant-loop-column g l = record {
  stays : Stays l.fn.self l.self;
  count : length l.self.next ≡ l.row * columns_of l.self.classes + l.column;
  base : IfSome l.base (λ base. IsBase l.self l.row base.row base.further.now);
  changes : HasChanges l.self l.row l.changes;
}
