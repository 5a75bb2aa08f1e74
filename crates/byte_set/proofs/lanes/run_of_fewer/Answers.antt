use Rattle.byte_set.specs.Tables.{passes}
use Rattle.byte_set.proofs.Runs.{IsRun-front, IsRun-back}
use Rattle.std.proofs.Common.{arith}
use Rattle.byte_set.proofs.lanes.run_of_fewer.Goals as goal

pub returns-then-passed-lt-FEWER : goal.returns-then-passed-lt-FEWER
returns-then-passed-lt-FEWER g c =
    let a = c.args in
    IsRun-front (passes (g.S.LookUp.bits a.s.now)) c.both_ends.result a.text.now a.from a.to _ c.requires.long
    c.requires.short c.both_ends.ensures.front c.both_ends.ensures.back c.run_of_lanes-passed.ensures (omega arith)

pub returns : goal.returns
returns g c =
    let a = c.args in
    IsRun-back (passes (g.S.LookUp.bits a.s.now)) c.both_ends.result a.text.now a.from a.to _ c.requires.long
    c.requires.short c.both_ends.ensures.front c.both_ends.ensures.back c.run_of_lanes-passed.ensures (omega arith)
