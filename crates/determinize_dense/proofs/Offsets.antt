-- Offsets of rows, and entries.
-- Main statements: rows_at-offsets, same-offset, row-of, stored-offsets, inverse-is, entry-at, over-stored.
-- Used by: Searching, Writing, `match_of`, `next_row`, `arranged`, `walker`, `entry` and `row_over`.
-- Idea: an offset is a number times the columns, so it is divided by them, and ordered as the numbers are.
use Rattle.determinize_dense.proofs.Common.{All, All-from_get_or, All-weaker, arith, column_of, DfaValue, div-add-mod'}
use Rattle.determinize_dense.proofs.Common.{div-lt_iff_lt-mul, div-mul-add, drop, get_or-drop, get_or-map, IsDfa}
use Rattle.determinize_dense.proofs.Common.{IsFilled, IsInverse, IsStored, IsUnit, length, length-drop, length-map}
use Rattle.determinize_dense.proofs.Common.{List, map, MAX_STATES, mod-lt, mul-add, mul-add-lt, mul-le-mul_left}
use Rattle.determinize_dense.proofs.Common.{mul_assoc, offset_of, Option, refl, row_over, rows_at, slice_index, Table}
use Rattle.determinize_dense.proofs.Common.{take, take_rest, [], ℕ, ◌%◌, ◌*◌, ◌+◌, ◌-◌, ◌/◌, ◌<◌, ◌^◌, ◌∷◌, ◌≡◌, ◌≤◌}
use Rattle.determinize_dense.proofs.Refining.{entry-below}

-- a number of columns, over the columns
divided : (r columns : ℕ) → 0 < columns → r * columns / columns ≡ r
divided r columns some = grind (arith, div-mul-add r columns 0 some)

-- a number of columns times the inverse of the columns
product : (r columns : ℕ) → 0 < columns
    → r * columns * (4294967296 / columns + 1) ≡ r * 4294967296 + r * (columns - 4294967296 % columns)
product r columns some =
    let one : columns * (4294967296 / columns + 1) ≡ 4294967296 + (columns - 4294967296 % columns) =
    omega (arith, div-add-mod' 4294967296 columns, mod-lt 4294967296 some) in
    rw (mul_assoc, one, mul-add)

module _ (r columns : ℕ) (some : 0 < columns) (few : r * columns < 4294967296) where
  over : r * (columns - 4294967296 % columns) ≤ r * columns
  over = mul-le-mul_left r (omega arith)

  inverse-row : r * columns * (4294967296 / columns + 1) / 4294967296 ≡ r
  inverse-row = rw (product r columns some)
      (div-mul-add r 4294967296 (r * (columns - 4294967296 % columns)) (omega (arith, over)))

  inverse-room : r * columns * (4294967296 / columns + 1) < 2 ^ 64
  inverse-room = grind (arith, over, product r columns some)

-- the rows at the offsets of rows
pub rows_at-offsets : (columns : ℕ) → 0 < columns → (rows : List ℕ)
    → rows_at columns (map (λ row. row * columns) rows) ≡ rows
rows_at-offsets columns some [] = refl
rows_at-offsets columns some (r ∷ rs) = rw (divided r columns some, rows_at-offsets columns some rs)

module _ (d : Table) where
  -- rows with one offset are one
  pub same-offset : {r s : ℕ} → offset_of d r ≡ offset_of d s → r ≡ s
  same-offset {r} {s} e = grind (arith, divided r (d.class_count + 1), divided s (d.class_count + 1))

  -- the row at an offset
  pub row-of : {offset r : ℕ} → offset ≡ offset_of d r → offset / (d.class_count + 1) ≡ r
  row-of {offset} {r} e = grind (arith, divided r (d.class_count + 1))

  pub offset-zero : {r : ℕ} → offset_of d r ≡ 0 → r ≡ 0
  offset-zero {r} e = grind (arith, divided r (d.class_count + 1))

-- the entries of a DFA as offsets
pub stored-offsets : (v : DfaValue) → IsDfa v → (offsets : List ℕ)
    → offsets ≡ map (λ row. row * (v.table.class_count + 1)) v.table.next → IsStored v offsets
stored-offsets v dfa offsets are = rw are (grind (arith, length-map, get_or-map))

-- the product of an offset and the inverse of the columns has the row
pub inverse-is : (d : Table) → IsFilled d → IsInverse d (4294967296 / (d.class_count + 1) + 1)
inverse-is d is =
    let few = λ (r : ℕ) (h : r < length d.patterns). mul-le-mul_left r is.narrow in
    grind (arith, few, inverse-room, inverse-row)

-- each entry is the number of a row
pub entries_within : (d : Table) → IsFilled d → All (λ row. row < length d.patterns) d.next
entries_within d is = All-from_get_or (λ row. row < length d.patterns) d.next 0 (λ e h.
    let columns : ℕ = d.class_count + 1 in
    let some : 0 < columns = omega arith in
    let row : e / columns < length d.patterns = (div-lt_iff_lt-mul some).1 (rw is.size at h) in
    rw (div-add-mod' e columns) at (entry-below d is (e / columns) (e % columns) row (mod-lt e some)))

pub entries_few : (d : Table) → IsFilled d → All (λ row. row < MAX_STATES) d.next
entries_few d is = All-weaker (λ row. row < length d.patterns) (λ row. row < MAX_STATES) (λ row h. omega arith) d.next
    (entries_within d is)

-- each row has an entry in each column
pub entry-at : (d : Table) → IsFilled d → (r c : ℕ) → r < length d.patterns → c < d.class_count + 1
    → r * (d.class_count + 1) + c < length d.next
entry-at d is r c h l = omega (arith, mul-add-lt r (d.class_count + 1) c (length d.patterns) h l)

-- as an offset, over a unit
pub over-stored : (v : DfaValue) (offsets : List ℕ) → IsStored v offsets → (r : ℕ) (u : Option ℕ)
    → r < length v.table.patterns → IsUnit u
    → (r * (v.table.class_count + 1) + column_of v.table u < length offsets)
    × (slice_index offsets (r * (v.table.class_count + 1) + column_of v.table u)
    ≡ offset_of v.table (row_over v.table r u))
over-stored v offsets is r u h unit =
    let there = entry-at v.table is.dfa.table r (column_of v.table u) h (is.dfa.table.column u unit) in
    grind (arith, there)

-- the end of a list, from an index on
abbrev pub rest_of : List ℕ → ℕ → List ℕ
rest_of xs k = take (length xs - k) (drop k xs)

pub rest-length : (xs : List ℕ) (k : ℕ) → length (rest_of xs k) ≡ length xs - k
rest-length xs k = simp (take_rest, length-drop)

-- and an element of it
pub rest-index : (xs : List ℕ) (k i : ℕ) → slice_index (rest_of xs k) i ≡ slice_index xs (k + i)
rest-index xs k i = simp (take_rest, get_or-drop)
