use Rattle.std.specs.Simd.Lanes.{chunk}
use Rattle.byte_set.proofs.Counts.{count_of_marks}
use Rattle.byte_set.proofs.lanes.count_of_few.Goals as goal

pub returns : goal.returns
returns g c =
    let a = c.args in
    count_of_marks (g.S.LookUp.bits a.s.now) (chunk a.from 16 a.text.now) _ _ c.of_few.ensures c.marks_of_few.ensures
