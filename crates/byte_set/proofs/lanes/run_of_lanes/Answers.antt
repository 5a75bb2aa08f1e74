use Rattle.std.proofs.Common.{eqb, cond, ap, subst}
use Rattle.std.proofs.lemmas.Bool.{ne_eqb}
use Rattle.std.specs.Int.Count.{count_trailing_zeros}
use Rattle.byte_set.specs.Sets.{IsRun}
use Rattle.byte_set.specs.Tables.{passes}
use Rattle.byte_set.proofs.Runs.{IsRun-lanes}
use Rattle.byte_set.proofs.lanes.run_of_lanes.Goals as goal

pub returns-then-marks-eq0 : goal.returns-then-marks-eq0
returns-then-marks-eq0 g c =
    let bits = g.S.LookUp.bits c.args.s.now in
    subst (IsRun (passes bits) c.args.bytes 0 16)
    (ap (λ k. cond (eqb k 0) 16 (count_trailing_zeros 64 k)) c.if-marks-eq0.true)
    (IsRun-lanes bits c.args.bytes _ _ c.fits-bytes.0 c.of_few.ensures c.marks_of_few-marks.ensures)

pub returns : goal.returns
returns g c =
    let bits = g.S.LookUp.bits c.args.s.now in
    subst (IsRun (passes bits) c.args.bytes 0 16)
    (ap (λ b. cond b 16 (count_trailing_zeros 64 c.marks_of_few-marks.result)) (ne_eqb _ 0 c.if-marks-eq0.false))
    (IsRun-lanes bits c.args.bytes _ _ c.fits-bytes.0 c.of_few.ensures c.marks_of_few-marks.ensures)
