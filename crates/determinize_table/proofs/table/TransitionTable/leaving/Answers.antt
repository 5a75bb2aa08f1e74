use Rattle.determinize_table.proofs.Common.{false, length-set, refl, ◌∙◌}
use Rattle.std.specs.Prelude.{slice_index_or}
use Rattle.determinize_table.proofs.Loops.{staying-all, staying-less}
use Rattle.determinize_core.specs.Value.{dead}
use Rattle.determinize_table.specs.Rows.{table_of}
use Rattle.determinize_table.proofs.table.TransitionTable.leaving.Goals.{then-is_loop_over, else-is_loop_over}
use Rattle.determinize_table.proofs.table.TransitionTable.leaving.Goals as goal

pub loop-byte-init : goal.loop-byte-init
loop-byte-init g c = record {
  count = refl;
  staying = staying-all (table_of c.args.self.now) (slice_index_or c.args.self.now.states c.args.id dead);
}

pub loop-byte-preserved : goal.loop-byte-preserved
loop-byte-preserved g c = elim c.if-is_loop_over.branch [
  | then-is_loop_over w ↦ rw (w.leaving-is, w.from.ensures) record {
    count = length-set c.loop-byte.leaving c.loop-byte.byte false ∙ c.loop-byte.invariant.count;
    staying = staying-less (table_of c.args.self.now) (slice_index_or c.args.self.now.states c.args.id dead)
        c.loop-byte.leaving c.loop-byte.byte c.loop-byte.invariant.staying (w.if-is_loop_over.ensures refl);
  }
  | else-is_loop_over w ↦ rw w.leaving-is c.loop-byte.invariant
]
