-- Marks of pairs of a position and a row, and how many are not set.
-- Main statements: bit_within, is_set-with, unset-with, unset_most, first_set, first_row, the ruleset one_bit.
-- Used by: Followed, Walked, `new_marks`, and the marks.
-- Idea: a row has a bit for each of the positions, so two pairs with one bit are equal.
use Rattle.std.proofs.Common.{◌≡◌, ◌<◌, ◌≤◌, ◌*◌, ◌+◌, ◌∙◌, ◌/◌, ◌%◌, ◌||◌, ◌&&◌, ℕ, Bool, List, ap, arith, false}
use Rattle.std.proofs.Common.{◌++◌, ◌-◌, ◌^◌, bit_or, drop, length, nat_eq, nat_lt, refl, replicate, slice_index_or, slice_set}
use Rattle.std.proofs.Common.{suc, sym, true, zero}
use Rattle.std.proofs.lemmas.Bool.{cases_lt, eqb-true}
use Rattle.std.proofs.lemmas.Bool.Decides.{nat_tests}
use Rattle.std.proofs.lemmas.List.{get_or-drop, get_or-replicate, length-replicate}
use Rattle.std.proofs.lemmas.Nat.{div-mul-add, mod-mul-add, mul-add-lt}
use Rattle.std.proofs.lemmas.Nat.Bits.{bit_at_ones}
use Rattle.std.proofs.Math.ListN.{get_or-append}
use Rattle.std.proofs.Math.Seq.{get_or-append_right}
use Rattle.ordered_reach.proofs.Cases.{by_cases, by_test}
use Rattle.determinize_below.specs.Private.Sparse.{has_bit}
use Rattle.determinize_below.proofs.sets.Bits.{has_bit-read, has_bit-set, has_bit-zeros}
use Rattle.determinize_dense.specs.Table.{Table}
use Rattle.determinize_linear.specs.Private.RowMarks.{HasBits, HasMark, RowMarks, bit_of, count_unset, is_set, unset_at}

-- a bit of a word
pub word_of : (first index : ℕ) → (64 * first + index) / 64 ≡ first + index / 64
word_of first index = omega arith

pub in_word : (first index : ℕ) → (64 * first + index) % 64 ≡ index % 64
in_word first index = omega arith

pub bit_set : (words : List ℕ) (first index other : ℕ) → first + index / 64 < length words
    → has_bit (slice_set words (first + index / 64)
    (bit_or (slice_index_or words (first + index / 64) 0) (1 * 2 ^ (index % 64) % 2 ^ 64))) other
    ≡ (nat_eq other (64 * first + index) || has_bit words other)
bit_set words first index other h =
    rw (word_of first index, in_word first index) at (has_bit-set words (64 * first + index) other (omega arith))

-- the bits of a row come after those of the rows before it
behind : (row columns span at : ℕ) → 64 * (row * columns * span) + at ≡ row * (64 * (columns * span)) + at
behind row columns span at = omega arith

one_pair : (w at row other next : ℕ) → at < w → other < w → row * w + at ≡ next * w + other
    → (row ≡ next) × (at ≡ other)
one_pair w at row other next a b e = (
  sym (div-mul-add row w at a) ∙ ap (λ n. n / w) e ∙ div-mul-add next w other b,
  sym (mod-mul-add row w at a) ∙ ap (λ n. n % w) e ∙ mod-mul-add next w other b,
)

module _ (d : Table) (positions : ℕ) (m : RowMarks) (has : HasBits d positions m) where
  -- a pair has a bit
  pub bit_within : (at row : ℕ) → at < positions → row < length d.patterns
      → bit_of m at (row * (d.class_count + 1)) < 64 * length m.words
  bit_within at row l h =
      let w : ℕ = (d.class_count + 1) * m.span in
      let b : 64 * (row * (d.class_count + 1) * m.span) + at ≡ row * (64 * w) + at
      = behind row (d.class_count + 1) m.span at in
      omega (arith, b, mul-add-lt row (64 * w) at (length d.patterns) h (omega (arith, has.room)), has.words)

  -- a pair is marked if it is the new one, or was marked
  pub is_set-with : (new : RowMarks) (at row other next : ℕ) → HasMark m (bit_of m at (row * (d.class_count + 1))) new
      → at < positions → other < positions
      → is_set d new other next ≡ ((nat_eq other at && nat_eq next row) || is_set d m other next)
  is_set-with new at row other next more a b =
      let w : ℕ = 64 * ((d.class_count + 1) * m.span) in
      let new_bit : ℕ = bit_of m at (row * (d.class_count + 1)) in
      let bit : ℕ = bit_of m other (next * (d.class_count + 1)) in
      rw (more.span, more.bits bit) (by_test (nat_eq bit new_bit)
      (λ z. let same : bit ≡ new_bit = eqb-true bit new_bit z in
      let e : next * w + other ≡ row * w + at = omega (
        arith,
        same,
        behind next (d.class_count + 1) m.span other,
        behind row (d.class_count + 1) m.span at,
      ) in
      let pair = one_pair w other next at row (omega (arith, has.room)) (omega (arith, has.room)) e in
      grind (arith, nat_tests, z, pair.0, pair.1))
      (λ z. grind (arith, nat_tests, z)))

-- one more pair of the first positions
abbrev IsOneMore : (ℕ → ℕ → Bool) → ℕ → ℕ → ℕ → (ℕ → ℕ → Bool) → Type 0
IsOneMore old at row n new = (p r : ℕ) → p < n → new p r ≡ ((nat_eq p at && nat_eq r row) || old p r)

module _ (old new : ℕ → ℕ → Bool) where
  row_same : (row n : ℕ) → ((p : ℕ) → p < n → new p row ≡ old p row) → unset_at new row n ≡ unset_at old row n
  row_same row zero h = refl
  row_same row (suc n) h = grind (arith, h n (omega arith), row_same row n (λ p l. h p (omega arith)))

  row_less : (at row n : ℕ) → IsOneMore old at row n new → at < n → old at row ≡ false
      → unset_at new row n + 1 ≡ unset_at old row n
  row_less at row zero h l e = absurd (omega arith)
  row_less at row (suc n) h l e = by_cases (cases_lt at n)
      (λ k. grind (arith, nat_tests, h n row (omega arith), row_less at row n (λ p r j. h p r (omega arith)) k e))
      (λ k. let z : at ≡ n = omega arith in
      grind (
        arith,
        nat_tests,
        h n row (omega arith),
        z,
        e,
        row_same row n (λ p j. grind (arith, nat_tests, h p row (omega arith))),
      ))

  rows_same : (at row n rows : ℕ) → IsOneMore old at row n new → rows ≤ row
      → count_unset new n rows ≡ count_unset old n rows
  rows_same at row n zero h l = refl
  rows_same at row n (suc rows) h l = grind (
    arith,
    rows_same at row n rows h (omega arith),
    row_same rows n (λ p j. grind (arith, nat_tests, h p rows j, l)),
  )

  rows_less : (at row n rows : ℕ) → IsOneMore old at row n new → at < n → row < rows → old at row ≡ false
      → count_unset new n rows + 1 ≡ count_unset old n rows
  rows_less at row n zero h l k e = absurd (omega arith)
  rows_less at row n (suc rows) h l k e = by_cases (cases_lt row rows)
      (λ j. grind (
        arith,
        rows_less at row n rows h l j e,
        row_same rows n (λ p i. grind (arith, nat_tests, h p rows i, j)),
      ))
      (λ j. let z : row ≡ rows = omega arith in
      grind (arith, z, row_less at row n h l e, rows_same at row n rows h (omega arith)))

-- a new mark leaves one less
pub unset-with : (d : Table) (n : ℕ) (m new : RowMarks) (at row : ℕ) → HasBits d n m
    → HasMark m (bit_of m at (row * (d.class_count + 1))) new → at < n → row < length d.patterns
    → is_set d m at row ≡ false
    → count_unset (is_set d new) n (length d.patterns) + 1 ≡ count_unset (is_set d m) n (length d.patterns)
unset-with d n m new at row has more l h e = rows_less (is_set d m) (is_set d new) at row n (length d.patterns)
    (λ p r k. is_set-with d n m has new at row p r more l k) l h e

row_most : (is : ℕ → ℕ → Bool) (row n : ℕ) → unset_at is row n ≤ n
row_most is row zero = omega arith
row_most is row (suc n) = grind (arith, row_most is row n)

pub unset_most : (is : ℕ → ℕ → Bool) (n rows : ℕ) → count_unset is n rows ≤ n * rows
unset_most is n zero = omega arith
unset_most is n (suc rows) = omega (arith, row_most is rows n, unset_most is n rows)

-- the bits of the first words, where all of them are set
pub first_set : (words : List ℕ) (n i : ℕ) → n ≤ length words
    → has_bit (replicate n (2 ^ 64 - 1) ++ drop n words) i ≡ (nat_lt i (64 * n) || has_bit words i)
unfolding has_bit
first_set words n i l = by_cases (cases_lt (i / 64) n)
    (λ k. grind (
      arith,
      nat_tests,
      k,
      get_or-append (replicate n (2 ^ 64 - 1)) (drop n words) 0 (i / 64),
      get_or-replicate {A = ℕ},
      length-replicate {A = ℕ},
      bit_at_ones 64 (i % 64) (omega arith),
    ))
    (λ k. grind (
      arith,
      nat_tests,
      k,
      get_or-append_right (replicate n (2 ^ 64 - 1)) (drop n words) (i / 64) 0,
      get_or-drop n words (i / 64 - n) 0,
      length-replicate {A = ℕ},
    ))

-- if they are those of the first row, no other row has a mark
pub first_row : (d : Table) (m : RowMarks)
    → ((i : ℕ) → has_bit m.words i ≡ nat_lt i (64 * ((d.class_count + 1) * m.span)))
    → (at row : ℕ) → is_set d m at row ≡ true → row ≡ 0
first_row d m first at zero e = refl
first_row d m first at (suc row) e =
    let l : bit_of m at (suc row * (d.class_count + 1)) < 64 * ((d.class_count + 1) * m.span)
    = grind (arith, nat_tests, sym (first (bit_of m at (suc row * (d.class_count + 1)))) ∙ e) in
    absurd (omega (arith, l, behind (suc row) (d.class_count + 1) m.span at))

-- the rules for a read and a write of one bit, and for new words
pub ruleset one_bit = (has_bit-read, has_bit-set, has_bit-zeros, word_of, in_word)
