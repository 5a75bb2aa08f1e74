use Rattle.std.proofs.Common.{arith}
use Rattle.determinize_linear.proofs.row_marks.RowMarks.is_set.Goals as goal

pub overflow_mul-offset : goal.overflow_mul-offset
overflow_mul-offset g c =
    let inside = rw (← c.self.view_is) at c.requires in omega (arith, inside, c.deref.ensures.len)

pub is_bit_set-requires : goal.is_bit_set-requires
is_bit_set-requires g c =
    let inside = rw (← c.self.view_is) at c.requires in omega (arith, inside, c.deref.ensures.len)
