use Rattle.determinize_dense.proofs.Common.{arith, by_cases, cases_eq, length, true≢false, ◌+◌, ◌-◌, ◌<◌}
use Rattle.determinize_dense.proofs.Distances.{shortened}
use Rattle.determinize_dense.proofs.rows.Rows.shorten.Goals as goal

pub loop-row-preserved-then-distance-distances : goal.loop-row-preserved-then-distance-distances
loop-row-preserved-then-distance-distances g c =
    let there = c.nearest-distance.ensures.there in
    let d = c.args.self.now.table in
    let is = c.len-row.ensures.sound.table in
    let room : c.loop-row.row - 1 < length d.patterns =
    omega (arith, c.loop-row.invariant.below, c.loop-row-test.true) in
    let set = shortened d is c.loop-row.distances (c.loop-row.row - 1) there.0 (c.nearest-distance.result + 1) room
    there.1 (omega (arith, there.2)) c.if-distance-distances.true c.loop-row.invariant.so_far in record {
      below = omega (arith, c.loop-row.invariant.below);
      so_far = set.0;
      short = λ no. absurd (true≢false no);
      fewer = omega (arith, set.1, c.loop-row.invariant.fewer);
      less = λ _. omega (arith, set.1, c.loop-row.invariant.fewer);
    }

pub loop-row-preserved : goal.loop-row-preserved
loop-row-preserved g c = record {
  below = omega (arith, c.loop-row.invariant.below);
  so_far = c.loop-row.invariant.so_far;
  short = λ no r low room q inside. by_cases (cases_eq r (c.loop-row.row - 1))
      (λ e. rw e (omega (arith, c.if-distance-distances.false, c.nearest-distance.ensures.least q inside)))
      (λ other. c.loop-row.invariant.short no r (omega (arith, low, other)) room q inside);
  fewer = c.loop-row.invariant.fewer;
  less = c.loop-row.invariant.less;
}

pub returns : goal.returns
returns g c = record {
  so_far = c.loop-row.invariant.so_far;
  short = λ no r room. c.loop-row.invariant.short no r (omega (arith, c.loop-row-test.false)) room;
  less = λ yes. c.loop-row.invariant.less yes;
}
