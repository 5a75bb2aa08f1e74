use Rattle.determinize_dense.proofs.Common.{All-from_get_or, arith, length, refl, ◌+◌, ◌<◌}
use Rattle.determinize_dense.proofs.Offsets.{entries_few, inverse-is, rows_at-offsets, stored-offsets}
use Rattle.determinize_dense.proofs.Ordering.{arranged-ordered, grouping-by_rank, in-order}
use Rattle.determinize_dense.specs.Private.Order.{AreRanks}
use Rattle.determinize_dense.specs.declared.partition.TheConstants.{RANKS}
use Rattle.determinize_dense.proofs.rows.Rows.arranged.Goals.{After-as_slice-ranks}
use Rattle.determinize_dense.proofs.rows.Rows.arranged.Goals as goal

ranks-are : (g : _) (c : After-as_slice-ranks g) → AreRanks c.args.self.table c.as_slice-ranks.result.now
ranks-are g c = rw (← c.as_slice-ranks.ensures.value) at c.in_ok-ranks.ensures

pub by_rank-requires : goal.by_rank-requires
by_rank-requires g c =
    let are = ranks-are g (goal.at.by_rank-requires g c).After-as_slice-ranks in
    record {
      some = are.some;
      first = (are.each 0 are.some).first refl;
      few = All-from_get_or (λ rank. rank < RANKS) c.as_slice-ranks.result.now 0 (λ r h. (are.each r h).few);
    }

pub merged-requires : goal.merged-requires
merged-requires g c = grouping-by_rank c.args.self (ranks-are g (goal.at.merged-requires g c).After-as_slice-ranks)
    c.in_ok-order.ensures

pub offsets_of-requires-clause-rows : goal.offsets_of-requires-clause-rows
offsets_of-requires-clause-rows g c = rw c.as_slice.ensures.value (entries_few _ c.rows.invariant.table)

pub invariant_of-result : goal.invariant_of-result
invariant_of-result g c =
    let are = ranks-are g (goal.at.invariant_of-result g c).After-as_slice-ranks in
    let offsets = rw (c.as_slice.ensures.value, c.alphabet_len-columns.ensures.count) at c.in_ok-next.ensures in
    let rows = rows_at-offsets (length c.rows.inside.classes.firsts + 1) (omega arith) c.rows.inside.next.items in
    rw (offsets, rows, c.alphabet_len-columns.ensures.count) (record {
      stored = stored-offsets _ c.rows.invariant _ refl;
      ordered = rw (← c.rows.view_is) at (arranged-ordered c.args.self are c.in_ok-order.ensures
          c.in_ok-rows.ensures c.last_upto-last_listing.ensures.last c.last_upto-last_scanned.ensures.last);
      staying = rw (← c.rows.view_is) at c.all_leaving-leaving.ensures;
      inverted = inverse-is _ c.rows.invariant.table;
    })

pub returns : goal.returns
returns g c =
    let are = ranks-are g (goal.at.returns g c).After-as_slice-ranks in
    let offsets = rw (c.as_slice.ensures.value, c.alphabet_len-columns.ensures.count) at c.in_ok-next.ensures in
    let rows = rows_at-offsets (length c.rows.inside.classes.firsts + 1) (omega arith) c.rows.inside.next.items in
    rw (offsets, rows, c.rows.view_is) (in-order c.args.self are c.in_ok-order.ensures c.in_ok-rows.ensures)
