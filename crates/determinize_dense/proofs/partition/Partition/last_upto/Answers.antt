use Rattle.determinize_dense.proofs.Common.{arith, get_or_default_zero, length, ◌+◌, ◌<◌}
use Rattle.determinize_dense.proofs.partition.Partition.last_upto.Goals as goal

pub bounds-ranks-index : goal.bounds-ranks-index
bounds-ranks-index g c = grind (arith, get_or_default_zero)

pub offset_bounds-ranks-index : goal.offset_bounds-ranks-index
offset_bounds-ranks-index g c =
    let inside : c.index.result.now < length c.args.ranks.now = grind (arith, get_or_default_zero) in omega arith

pub loop-last-preserved : goal.loop-last-preserved
loop-last-preserved g c = rw (← c.self.view_is) (grind (arith, get_or_default_zero))

pub returns-after-loop-last : goal.returns-after-loop-last
returns-after-loop-last g c = rw (← c.self.view_is) (grind arith)

pub returns-else-ranks-index : goal.returns-else-ranks-index
returns-else-ranks-index g c = grind (arith, get_or_default_zero, c.requires.ranks.ascend (c.loop-last.last + 1))
