use Rattle.std.proofs.Common.{◌+◌, arith}
use Rattle.byte_set.specs.Tables.{passes}
use Rattle.byte_set.proofs.Counts.{count_few, count_on}
use Rattle.byte_set.proofs.count_by_vectors.Goals as goal

pub overflow_add-count : goal.overflow_add-count
overflow_add-count g c =
    let a = c.args in
    let test = passes (g.S.LookUp.bits a.s.now) in
    let at = c.loop-at in
    let next = count_on test a.text.now a.from at.at at.invariant.low 64 in
    let few = count_few test a.text.now a.from (at.at + 64) (omega arith) (omega arith) in
    record { fits = omega (arith, next, few, at.invariant.count, c.count_of_many-count.ensures) }

pub loop-at-preserved : goal.loop-at-preserved
loop-at-preserved g c =
    let a = c.args in
    let at = c.loop-at in
    let next = count_on (passes (g.S.LookUp.bits a.s.now)) a.text.now a.from at.at at.invariant.low 64 in
    record {
      low = omega arith;
      high = omega arith;
      whole = omega arith;
      count = omega (arith, next, at.invariant.count, c.count_of_many-count.ensures);
    }

pub overflow_add-count-in-loop-at-2 : goal.overflow_add-count-in-loop-at-2
overflow_add-count-in-loop-at-2 g c =
    let a = c.args in
    let test = passes (g.S.LookUp.bits a.s.now) in
    let at = c.loop-at-2 in
    let next = count_on test a.text.now a.from at.at at.invariant.low 16 in
    let few = count_few test a.text.now a.from (at.at + 16) (omega arith) (omega arith) in
    record { fits = omega (arith, next, few, at.invariant.count, c.count_of_few-count.ensures) }

pub loop-at-2-preserved : goal.loop-at-2-preserved
loop-at-2-preserved g c =
    let a = c.args in
    let at = c.loop-at-2 in
    let next = count_on (passes (g.S.LookUp.bits a.s.now)) a.text.now a.from at.at at.invariant.low 16 in
    record {
      low = omega arith;
      high = omega arith;
      whole = omega arith;
      count = omega (arith, next, at.invariant.count, c.count_of_few-count.ensures);
    }
