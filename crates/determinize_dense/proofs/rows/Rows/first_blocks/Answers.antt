use Rattle.determinize_dense.proofs.Common.{arith, IfOk-weaker, IsPartition, length-replicate}
use Rattle.determinize_dense.proofs.Distances.{apart-distance}
use Rattle.determinize_dense.proofs.Refining.{partition-apart, partition-first}
use Rattle.determinize_dense.proofs.rows.Rows.first_blocks.Goals as goal

pub whole-requires : goal.whole-requires
whole-requires g c = grind (arith, c.len.ensures.sound.table.first 0)

pub split-requires : goal.split-requires
split-requires g c = grind (arith, length-replicate)

pub returns : goal.returns
returns g c =
    let listing : IsPartition c.args.self.now.table c.in_ok-listing.listing = grind (arith, partition-first) in
    let apart = apart-distance c.args.self.now.table c.len.ensures.sound.table c.in_ok-distances.distances.items
    c.in_ok-distances.ensures in
    IfOk-weaker c.split-2.result _ _
    (λ parts split. partition-apart listing (rw c.as_slice-2.ensures.value at split) apart) c.split-2.ensures
