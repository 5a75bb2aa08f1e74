use Rattle.determinize_dense.proofs.Common.{rules, take_all, ◌*◌}
use Rattle.determinize_dense.proofs.Lists.{mapped-push}
use Rattle.determinize_dense.proofs.rows.offsets_of.Goals as goal

pub loop-row-preserved : goal.loop-row-preserved
loop-row-preserved g c = record {
  offsets = mapped-push (λ row. row * c.args.columns) _ _ _ _ 0 c.loop-row.invariant.offsets c.in_ok-push.ensures.items
      (search rules);
}

pub returns : goal.returns
returns g c = rw (take_all c.loop-row.row-index c.args.rows.now (search rules)) at c.loop-row.invariant.offsets
