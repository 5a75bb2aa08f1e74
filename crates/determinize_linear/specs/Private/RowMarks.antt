-- Marks of pairs of a position and a row of a DFA.
use Rattle.std.specs.Prelude.{◌≡◌, ◌*◌, ◌+◌, ◌≤◌, ℕ, Bool, List, cond, length, nat_eq, suc, zero}
use mathlib.Core.Bool.{◌||◌}
use Rattle.determinize_below.specs.Private.Sparse.{has_bit}
use Rattle.determinize_dense.specs.Table.{Table}

-- the number of words for each entry of the table, and words with a bit for each position at each
-- row, one row after the other
pub record RowMarks : Type 0 where
  pub span : ℕ
  pub words : List ℕ

-- the bit of a position at the row with this offset
abbrev pub bit_of : RowMarks → ℕ → ℕ → ℕ
bit_of m at offset = 64 * (offset * m.span) + at

-- whether a pair is marked
abbrev pub is_set : Table → RowMarks → ℕ → ℕ → Bool
is_set d m at row = has_bit m.words (bit_of m at (row * (d.class_count + 1)))

-- there is a bit for each of some positions at each row
pub record HasBits (d : Table) (positions : ℕ) (m : RowMarks) : Type 0 where
  pub room : positions ≤ 64 * ((d.class_count + 1) * m.span)
  pub words : length m.words ≡ length d.patterns * ((d.class_count + 1) * m.span)

-- one more bit is set
pub record HasMark (old : RowMarks) (bit : ℕ) (new : RowMarks) : Type 0 where
  pub span : new.span ≡ old.span
  pub words : length new.words ≡ length old.words
  pub bits : (i : ℕ) → has_bit new.words i ≡ (nat_eq i bit || has_bit old.words i)

-- how many of the first positions are not marked at a row, and at the first rows
abbrev pub unset_at : (ℕ → ℕ → Bool) → ℕ → ℕ → ℕ
unset_at is row zero = 0
unset_at is row (suc at) = cond (is at row) 0 1 + unset_at is row at

abbrev pub count_unset : (ℕ → ℕ → Bool) → ℕ → ℕ → ℕ
count_unset is positions zero = 0
count_unset is positions (suc row) = unset_at is row positions + count_unset is positions row
