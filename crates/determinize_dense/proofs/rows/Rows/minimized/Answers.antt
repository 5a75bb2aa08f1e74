use Rattle.determinize_dense.proofs.Common.{arith, DfaValue, IfOk-weaker, IsMerged, IsPartition, ◌∙◌}
use Rattle.determinize_dense.proofs.Merging.{merged-least}
use Rattle.determinize_dense.proofs.Splitting.{few_blocks}
use Rattle.determinize_dense.specs.Private.Minimizing.{IsMinimized}
use Rattle.determinize_dense.specs.Private.Order.{IsInOrder}
use Rattle.determinize_dense.specs.Private.Partition.{Blocks}
use Rattle.determinize_dense.proofs.rows.Rows.minimized.Goals as goal

pub merged-requires : goal.merged-requires
merged-requires g c =
    let partition = c.in_ok-parts.ensures.partition in record {
      blocks = partition.blocks;
      count = partition.count;
      patterns = partition.patterns;
      stable = c.in_ok-parts.ensures.stable;
    }

is-minimized : {v : DfaValue} {p : Blocks} {merged : DfaValue} (w : DfaValue) → IsPartition v.table p
    → IsMerged v p merged → IsInOrder merged w → IsMinimized v w
is-minimized w parts merged order = record {
  nfa = order.nfa ∙ merged.nfa;
  kind = order.kind ∙ merged.kind;
  means = order.means;
  least = order.least (merged-least _ _ _ parts merged);
  fewer = omega (arith, few_blocks parts.blocks, parts.count, merged.count, order.rows);
}

pub returns : goal.returns
returns g c = IfOk-weaker c.arranged.result _ _
    (λ w order. is-minimized w c.in_ok-parts.ensures.partition c.in_ok-fewest.ensures order) c.arranged.ensures
