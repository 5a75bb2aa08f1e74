use Rattle.std.proofs.Common.{arith}
use Rattle.determinize_linear.proofs.row_marks.RowMarks.set.Goals as goal

pub overflow_mul-offset : goal.overflow_mul-offset
overflow_mul-offset g c =
    let inside = rw (← c.self.view_is) at c.requires in omega (arith, inside, c.deref_mut.ensures.len)

pub set_bit-requires : goal.set_bit-requires
set_bit-requires g c =
    let inside = rw (← c.self.view_is) at c.requires in omega (arith, inside, c.deref_mut.ensures.len)
