-- Partitions of the rows of a table, which are split until each column is settled.
-- Main statements: entry-below, partition-first, partition-apart, partition-split, settled-more.
-- Used by: Distances, Offsets, `entry`, `first_blocks`, `split_by` and `partition`.
-- Idea: rows that are split were apart, or have entries in a column that were apart.
use Rattle.determinize_dense.proofs.Common.{All-cons, All-nil, AreApart, AreEqual, AreFirstAlike, AreTargets, arith}
use Rattle.determinize_dense.proofs.Common.{Blocks, by_cases, cases_eq, entry, get_or-replicate, IsFilled, IsPartition}
use Rattle.determinize_dense.proofs.Common.{IsSettled, IsSplit, IsSplitBy, IsUnit, length}
use Rattle.determinize_dense.proofs.Common.{length-replicate, List, patterns_at, refl, replicate, slice_index, Table}
use Rattle.determinize_dense.proofs.Common.{[], ℕ, ◌+◌, ◌<◌, ◌∙◌, ◌∷◌, ◌≡◌, ◌≤◌}

-- the row after a row in a column is a row
pub entry-below : (d : Table) → IsFilled d → (r c : ℕ) → r < length d.patterns → c < d.class_count + 1
    → entry d r c < length d.patterns
entry-below d is r c h l = let k = is.units c l in rw (← k.2) (is.within r k.0 h k.1)

-- rows whose entries in a column are apart are apart
apart-entry : (d : Table) → IsFilled d → (r s c : ℕ) → c < d.class_count + 1
    → AreApart d (entry d r c) (entry d s c) → AreApart d r s
apart-entry d is r s c l a =
    let k = is.units c l in (k.0 ∷ a.0, All-cons IsUnit k.0 a.0 k.1 a.1, rw k.2 a.2)

-- two rows have one first row exactly if they list the same patterns
same_first : (d : Table) (values : List ℕ) → AreFirstAlike d values → (r s : ℕ) → r < length values → s < length values
    → (AreEqual values r s → patterns_at d r ≡ patterns_at d s)
    × (patterns_at d r ≡ patterns_at d s → AreEqual values r s)
same_first d values are r s h l = grind (arith, are.firsts r h, are.firsts s l)

-- the rows that list the same patterns
pub partition-first : (d : Table) (p q : Blocks) (values : List ℕ) → p.numbers ≡ replicate (length d.patterns) 0
    → AreFirstAlike d values → IsSplit values p q → IsPartition d q
partition-first d p q values whole are split = record {
  blocks = split.blocks;
  count = grind (arith, length-replicate);
  patterns = λ r s h l same. grind (arith, count, same_first d values are r s, split.together r s);
  apart = λ r s h l other. (
    [],
    All-nil IsUnit,
    λ same.
        grind (arith, count, same_first d values are r s, split.together r s, get_or-replicate),
  );
}
  where
    count : length p.numbers ≡ length d.patterns
    count = rw whole (length-replicate (length d.patterns) 0)

-- rows that differ in a value are apart
pub partition-apart : {d : Table} {p q : Blocks} {values : List ℕ} → IsPartition d p → IsSplit values p q
    → ((r s : ℕ) → r < length d.patterns → s < length d.patterns → (AreEqual values r s → ⊥) → AreApart d r s)
    → IsPartition d q
partition-apart {d} {p} {q} {values} part split apart = record {
  blocks = split.blocks;
  count = split.count ∙ part.count;
  patterns = λ r s h l same. part.patterns r s h l (grind (arith, split.together r s));
  apart = λ r s h l other. by_cases (cases_eq (slice_index p.numbers r) (slice_index p.numbers s))
      (λ same. apart r s h l (λ equal. other (grind (arith, part.count, split.together r s))))
      (part.apart r s h l);
}

-- a pass over a column
pub partition-split : (d : Table) → IsFilled d → (p q : Blocks) (c : ℕ) (values : List ℕ) → c < d.class_count + 1
    → IsPartition d p → AreTargets d p c values → IsSplit values p q → IsSplitBy d c p q
partition-split d is p q c values inside part targets split = record {
  partition = partition-apart part split (λ r s h l other. apart-entry d is r s c inside (part.apart (entry d r c)
      (entry d s c) (entry-below d is r c h inside) (entry-below d is s c l inside)
      (λ together. other (grind (arith, targets.count, targets.blocks r, targets.blocks s)))));
  more = split.more;
  stays = grind (arith, split.stays, split.together);
}

-- a pass over a column in which the blocks are settled
pub partition-settled : {d : Table} {p : Blocks} {c : ℕ} → IsPartition d p → IsSettled d p c → IsSplitBy d c p p
partition-settled part settled = record { partition = part; more = omega arith; stays = λ same. (refl, settled) }

-- one pass more of a cycle that splits no block
pub settled-more : {d : Table} {n count : ℕ} {p q : Blocks} → count ≤ length p.members
    → (length p.members ≡ count → (c : ℕ) → c < n → IsSettled d p c) → IsSplitBy d n p q
    → length q.members ≡ count → (c : ℕ) → c < n + 1 → IsSettled d q c
settled-more {n = n} more so_far pass same c h =
    let new = pass.stays (omega (arith, more, pass.more, same)) in
    rw new.0 (by_cases (cases_eq c n)
    (λ last. rw last new.1)
    (λ other. so_far (omega (arith, more, pass.more, same)) c (omega (arith, h, other))))
