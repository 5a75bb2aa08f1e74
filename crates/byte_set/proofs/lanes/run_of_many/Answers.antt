use Rattle.std.proofs.Common.{map, refl, sym, ap, subst, ◌∙◌, arith}
use Rattle.std.specs.Simd.Lanes.{mask_l}
use Rattle.byte_set.specs.Sets.{IsRun}
use Rattle.byte_set.specs.Tables.{is_some_bit, passes}
use Rattle.byte_set.proofs.Runs.{IsRun-marks, trailing_64}
use Rattle.byte_set.proofs.lanes.run_of_many.Goals as goal

pub returns-then-has_no_bit : goal.returns-then-has_no_bit
returns-then-has_no_bit g c =
    let a = c.args in
    IsRun-marks (g.S.LookUp.bits a.s.now) a.text.now a.from 64 c.requires (omega arith) 0
    (sym (c.if-has_no_bit.ensures refl) ∙ ap (λ v. mask_l (map is_some_bit v)) c.of_many-bits.ensures)

pub returns : goal.returns
returns g c =
    let a = c.args in
    let bits = g.S.LookUp.bits a.s.now in
    subst (IsRun (passes bits) a.text.now a.from 64) (trailing_64 c.marks_of_many.result)
    (IsRun-marks bits a.text.now a.from 64 c.requires (omega arith) _
    (c.marks_of_many.ensures ∙ ap (λ v. mask_l (map is_some_bit v)) c.of_many-bits.ensures))
