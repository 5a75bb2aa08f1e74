use Rattle.std.proofs.lemmas.Simd.{get_or-chunk}
use Rattle.byte_set.specs.Tables.{passes}
use Rattle.byte_set.proofs.Runs.{IsRun-moved}
use Rattle.byte_set.proofs.lanes.run_of_few.Goals as goal

pub returns : goal.returns
returns g c =
    let a = c.args in
    IsRun-moved (passes (g.S.LookUp.bits a.s.now)) _ a.text.now a.from 16 _
    (λ k l. get_or-chunk a.from 16 a.text.now k 0 l) c.run_of_lanes.ensures
