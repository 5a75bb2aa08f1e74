use Rattle.std.specs.Simd.Lanes.{chunk}
use Rattle.byte_set.proofs.Counts.{count_of_marks}
use Rattle.byte_set.proofs.lanes.count_of_many.Goals as goal

pub returns : goal.returns
returns g c =
    let a = c.args in
    count_of_marks (g.S.LookUp.bits a.s.now) (chunk a.from 64 a.text.now) _ _ c.of_many.ensures c.marks_of_many.ensures
