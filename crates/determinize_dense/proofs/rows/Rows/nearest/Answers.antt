use Rattle.determinize_dense.proofs.Common.{arith, by_cases, cases_lt, slice_index, ◌+◌, ◌≡◌}
use Rattle.determinize_dense.proofs.rows.Rows.nearest.Goals as goal

pub loop-column-preserved : goal.loop-column-preserved
loop-column-preserved g c =
    let columns : c.alphabet_len-column-end.result ≡ c.args.self.now.table.class_count + 1 =
    rw (← c.self.view_is) c.alphabet_len-column-end.ensures.count in
    let there = c.loop-column.invariant.there in record {
      least = λ q h. grind (arith, c.loop-column.invariant.least q);
      there = by_cases (cases_lt c.loop-column.least (slice_index c.args.distances.now c.entry-in-loop-column.result))
          (λ less. (there.0, there.1, grind (arith, less, there.2)))
          (λ more. (c.loop-column.column, omega (arith, columns, c.loop-column-test.true), grind (arith, more)));
    }
