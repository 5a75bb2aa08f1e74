use Rattle.determinize_dense.proofs.Common.{arith, length, rules, ◌<◌}
use Rattle.determinize_dense.proofs.Building.{ids-stay, more-before, err-as, stays-more}
use Rattle.determinize_dense.proofs.build.Builder.fill.Goals as goal

pub loop-row-preserved : goal.loop-row-preserved
loop-row-preserved g c =
    let room : c.loop-row.row < length c.loop-row.self.values =
    rw (← c.self-in-loop-row.view_is) (rw c.len.ensures.value at c.loop-row-test.true) in
    record {
      stays = stays-more c.loop-row.invariant.stays c.in_ok-add_row.ensures.stays;
      usual = ids-stay _ c.in_ok-add_row.ensures.stays c.loop-row.invariant.listed c.loop-row.invariant.usual;
      listed = omega (arith, c.loop-row.invariant.listed, c.in_ok-add_row.ensures.stays.longer);
      whole = c.in_ok-add_row.ensures.whole;
      within = omega (arith, room, c.in_ok-add_row.ensures.stays.longer);
    }

pub returns-in_err-add_row-clause-many : goal.returns-in_err-add_row-clause-many
returns-in_err-add_row-clause-many g c = λ same.
    more-before c.loop-row.invariant.stays (c.in_err-add_row.ensures.many (err-as same (search rules)))
