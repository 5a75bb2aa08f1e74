-- The table of a DFA: a row for each state, in it a column for each class of bytes, and last one
-- for the end of input.
use Rattle.std.specs.Prelude.{ℕ, ◌+◌, ◌*◌, Bool, Option, Some, None, List, [], ◌∷◌, get_or}
use Rattle.std.specs.Prelude.{length, slice_index, sum_by}
use Rattle.determinize_below.specs.Semantics.{Nfa}
use Rattle.determinize_below.specs.declared.search.MatchKind.{MatchKind}
use Rattle.determinize_start.specs.StartKinds.{start_kind_of}
use Rattle.determinize_start.specs.StartSlots.{slot_number, slot_of}

-- the class of each byte, and the number of classes; the entries of all rows, one row after the
-- other; the rows of the start states; and the patterns that each row lists
pub record Table : Type 0 where
  pub classes : List ℕ
  pub class_count : ℕ
  pub next : List ℕ
  pub starts : List ℕ
  pub patterns : List (List ℕ)

-- what a `Dfa` is seen as: its NFA, its match kind and its table
pub record DfaValue : Type 0 where
  pub nfa : Nfa
  pub kind : MatchKind
  pub table : Table

-- the column of a unit
abbrev pub column_of : Table → Option ℕ → ℕ
column_of d None = d.class_count
column_of d (Some byte) = slice_index d.classes byte

-- the row after a row over a unit
abbrev pub row_over : Table → ℕ → Option ℕ → ℕ
row_over d r u = slice_index d.next (r * (d.class_count + 1) + column_of d u)

-- the row after a row over units
abbrev pub row_after : Table → ℕ → List (Option ℕ) → ℕ
row_after d r [] = r
row_after d r (u ∷ us) = row_after d (row_over d r u) us

-- the row of a start after a byte, or after nothing
abbrev pub start_row : Nfa → Table → Bool → Option ℕ → ℕ
start_row nfa d anchored p = slice_index d.starts
    (slot_number (slot_of anchored (start_kind_of nfa.terminator p)))

-- the patterns that a row lists
abbrev pub patterns_at : Table → ℕ → List ℕ
patterns_at d r = get_or d.patterns r []

-- four bytes for each entry, and for each row 24 bytes and four for each pattern that it lists
abbrev pub bytes_of : Table → ℕ
bytes_of d = length d.patterns * (d.class_count + 1) * 4
    + sum_by (λ list. 24 + length list * 4) d.patterns
