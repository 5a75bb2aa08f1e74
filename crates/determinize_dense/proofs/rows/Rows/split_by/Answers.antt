use Rattle.determinize_dense.proofs.Common.{arith, AreTargets, IfOk-weaker}
use Rattle.determinize_dense.proofs.Refining.{partition-settled, partition-split}
use Rattle.determinize_dense.proofs.Splitting.{pushed}
use Rattle.determinize_dense.proofs.rows.Rows.split_by.Goals as goal

pub block-requires : goal.block-requires
block-requires g c = rw c.requires.parts.count c.entry.ensures.limit

pub loop-row-preserved : goal.loop-row-preserved
loop-row-preserved g c = grind (arith, pushed)

pub returns-then-is_settled : goal.returns-then-is_settled
returns-then-is_settled g c = partition-settled c.requires.parts (c.is_settled.ensures.0 c.if-is_settled.true)

pub returns : goal.returns
returns g c =
    let targets : AreTargets c.args.self.now.table c.args.parts c.args.column c.loop-row.targets.items =
    record { count = omega arith; blocks = c.loop-row.invariant.blocks } in
    IfOk-weaker c.split.result _ _
    (λ q h. partition-split c.args.self.now.table c.len.ensures.sound.table c.args.parts q _ _ c.requires.column
    c.requires.parts targets (rw c.as_slice.ensures.value at h)) c.split.ensures
