use Rattle.determinize_dense.proofs.Common.{arith, drop, length, List, refl, take, ℕ, ◌++◌, ◌∙◌, ◌≡◌}
use Rattle.determinize_dense.proofs.Splitting.{pushed}
use Rattle.std.proofs.Math.Seq.{take-append_seam}
use Rattle.determinize_dense.proofs.rows.Rows.distances.Goals as goal

pub loop-row-preserved : goal.loop-row-preserved
loop-row-preserved g c = grind (arith, pushed)

pub loop-init : goal.loop-init
loop-init g c = record {
  so_far = record {
    count = omega (
      arith,
      c.loop-row.invariant.count,
      c.loop-row.auto.row-end,
      c.loop-row-test.false,
      c.len-row-end.ensures.value,
    );
    each = c.loop-row.invariant.each;
  };
}

-- a slice of the whole list is written back
written : (xs ys : List ℕ) {n : ℕ} → length xs ≡ n → take n (xs ++ drop (length xs) ys) ≡ xs
written xs ys same = rw (← same, take-append_seam) refl

pub loop-preserved : goal.loop-preserved
loop-preserved g c = rw (written c.shorten.new.distances c.loop.distances.items
    (c.shorten.auto.distances ∙ c.as_mut_slice.ensures.len)) record { so_far = c.shorten.ensures.so_far }

pub loop-smaller : goal.loop-smaller
loop-smaller g c =
    let less = rw c.as_mut_slice.ensures.value at (c.shorten.ensures.less c.loop-test.true) in
    rw (written c.shorten.new.distances c.loop.distances.items
    (c.shorten.auto.distances ∙ c.as_mut_slice.ensures.len)) less

pub returns : goal.returns
returns g c = rw (written c.shorten.new.distances c.loop.distances.items
    (c.shorten.auto.distances ∙ c.as_mut_slice.ensures.len)) record {
      so_far = c.shorten.ensures.so_far;
      short = c.shorten.ensures.short c.loop-test.false;
    }
