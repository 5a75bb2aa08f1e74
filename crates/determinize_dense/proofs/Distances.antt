-- The distance of a row to one that lists patterns, and rows of different distance.
-- Main statements: apart-distance, shortened.
-- Used by: `shorten`, `first_blocks`.
-- Idea: where one of two rows comes to a row that lists patterns first, the other lists none.
use Rattle.determinize_dense.proofs.Common.{All, All-cons, All-head, All-tail, AreApart, AreDistances}
use Rattle.determinize_dense.proofs.Common.{AreDistancesSoFar, AreEqual, arith, by_cases, cases_eq, cases_lt, column_of}
use Rattle.determinize_dense.proofs.Common.{entry, get_or-set_other, get_or-set_same, IsDistanceSoFar, IsFilled, IsUnit}
use Rattle.determinize_dense.proofs.Common.{length, length-set, List, ListsAfter, Option, patterns_at, row_after}
use Rattle.determinize_dense.proofs.Common.{row_over, slice_index, slice_set, sum_by, sum_by-set, sym, Table, [], ℕ}
use Rattle.determinize_dense.proofs.Common.{◌+◌, ◌<◌, ◌∙◌, ◌∷◌, ◌≡◌, ◌≤◌}
use Rattle.determinize_dense.proofs.Refining.{entry-below}

module _ (d : Table) (is : IsFilled d) (values : List ℕ) where
  -- one unit more
  lists-more : (r c n : ℕ) → c < d.class_count + 1 → ListsAfter d (entry d r c) n → ListsAfter d r (n + 1)
  lists-more r c n inside after =
      let k = is.units c inside in record {
        us = k.0 ∷ after.us;
        units = All-cons IsUnit k.0 after.us k.1 after.units;
        count = grind (arith, after.count);
        lists = rw k.2 after.lists;
      }

  path : AreDistancesSoFar d values → (r : ℕ) → r < length d.patterns → IsDistanceSoFar d r (slice_index values r)
  path so_far r inside = so_far.each r (omega (arith, inside, so_far.count))

  -- no row that lists patterns is nearer
  least : AreDistances d values → (us : List (Option ℕ)) (r : ℕ) → All IsUnit us → r < length d.patterns
      → (patterns_at d (row_after d r us) ≡ [] → ⊥) → slice_index values r ≤ length us
  least are [] r all inside lists = omega (arith, (path are.so_far r inside).listing lists)
  least are (u ∷ us) r all inside lists =
      let unit = All-head IsUnit u us all in
      let rest = least are us (row_over d r u) (All-tail IsUnit u us all) (is.within r u inside unit) lists in
      let short = are.short r inside (column_of d u) (is.column u unit) in omega (arith, rest, short)

  -- a nearer row is apart
  nearer : AreDistances d values → (r s : ℕ) → r < length d.patterns → s < length d.patterns
      → slice_index values r < slice_index values s → AreApart d r s
  nearer are r s h l less =
      let k = (path are.so_far r h).lists (omega (arith, less, (path are.so_far s l).far)) in (
        k.us,
        k.units,
        λ same. let far = least are k.us s k.units l (rw same at k.lists) in
            absurd (omega (arith, far, less, k.count)),
      )

  -- rows of different distance are apart
  pub apart-distance : AreDistances d values → (r s : ℕ) → r < length d.patterns → s < length d.patterns
      → (AreEqual values r s → ⊥) → AreApart d r s
  apart-distance are r s h l other = by_cases (cases_lt (slice_index values r) (slice_index values s))
      (nearer are r s h l)
      (λ more. let a = nearer are s r l h (grind (arith, more, other)) in (a.0, a.1, λ same. a.2 (sym same)))

  module _ (row c distance : ℕ) (room : row < length d.patterns) (inside : c < d.class_count + 1)
      (is_more : distance ≡ slice_index values (entry d row c) + 1) (shorter : distance < slice_index values row)
      (so_far : AreDistancesSoFar d values) where
    -- a shorter distance, and the sum of all
    pub shortened : AreDistancesSoFar d (slice_set values row distance)
        × (sum_by (λ n. n) (slice_set values row distance) < sum_by (λ n. n) values)
    shortened =
        let sum = sum_by-set (λ n. n) values row distance 0 (omega (arith, room, so_far.count)) in
        let size = length-set values row distance in (
          record {
            count = size ∙ so_far.count;
            each = λ r h. by_cases (cases_eq r row)
                (λ e. rw (e, get_or-set_same values row distance 0 (omega (arith, room, so_far.count))) record {
                  far = omega (arith, shorter, (path so_far row room).far);
                  lists = λ near. rw is_more (lists-more row c (slice_index values (entry d row c)) inside
                      ((path so_far (entry d row c) (entry-below d is row c room inside)).lists
                      (omega (arith, is_more, near))));
                  listing = λ lists. absurd (omega (arith, shorter, (path so_far row room).listing lists));
                })
                (λ e. rw (get_or-set_other values row r distance 0 e) (so_far.each r (rw size at h)));
          },
          omega (arith, sum, shorter),
        )
