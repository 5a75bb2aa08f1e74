-- What is true of every DFA.
use Rattle.std.specs.Prelude.{◌≡◌, ◌<◌, ◌≤◌, ◌+◌, ◌*◌, ◌/◌, ◌^◌, ℕ, Option, List}
use Rattle.std.specs.Prelude.{length, map, slice_index}
use Rattle.determinize_below.specs.ByteClasses.{AreClassesOf, Classes}
use Rattle.determinize_below.specs.Nfa.{IsAccepted}
use Rattle.determinize_below.specs.Semantics.{Nfa}
use Rattle.determinize_below.specs.Truth.{IsUnit}
use Rattle.determinize_below.specs.declared.search.MatchKind.{MatchKind}
use Rattle.determinize_engine.specs.declared.state_table.TheConstants.{MAX_STATES}
use Rattle.determinize_start.specs.declared.start.TheConstants.StartSlot.{COUNT}
use Rattle.determinize_dense.specs.Dfa.{IsDfaOf}
use Rattle.determinize_dense.specs.Least.{IsReachedRow}
use Rattle.determinize_dense.specs.Reading.{IsDead}
use Rattle.determinize_dense.specs.Table.{DfaValue, Table, column_of, row_over}

-- each entry is in place and is the number of a row, and each column is that of a unit; there are
-- at most MAX_STATES rows, of at most 257 entries
pub record IsFilled (d : Table) : Type 0 where
  pub size : length d.next ≡ length d.patterns * (d.class_count + 1)
  pub starts : length d.starts ≡ COUNT
  pub first : (i : ℕ) → i < COUNT → slice_index d.starts i < length d.patterns
  pub column : (u : Option ℕ) → IsUnit u → column_of d u < d.class_count + 1
  pub units : (c : ℕ) → c < d.class_count + 1 → (u : Option ℕ) × IsUnit u × (column_of d u ≡ c)
  pub within : (r : ℕ) (u : Option ℕ) → r < length d.patterns → IsUnit u → row_over d r u
      < length d.patterns
  pub few : length d.patterns ≤ MAX_STATES
  pub narrow : d.class_count + 1 ≤ 257

-- the value of a DFA of these parts
abbrev pub dfa_value : Nfa → MatchKind → Classes → List ℕ → List ℕ → List (List ℕ) → DfaValue
dfa_value nfa kind classes next starts patterns = record {
  nfa = nfa;
  kind = kind;
  table = record {
    classes = classes.of_bytes;
    class_count = length classes.firsts;
    next = next;
    starts = starts;
    patterns = patterns;
  };
}

-- a table of this NFA, which is valid, and of this match kind; the classes of bytes are those of
-- the NFA, each row is reached, and nothing is listed from row 0 on
pub record IsDfa (v : DfaValue) : Type 0 where
  pub accepted : IsAccepted v.nfa
  pub classes : (p : Classes) → p.of_bytes ≡ v.table.classes → AreClassesOf v.nfa p
  pub table : IsFilled v.table
  pub tells : IsDfaOf v.nfa v.kind v.table
  pub reached : (r : ℕ) → r < length v.table.patterns → IsReachedRow v.nfa v.table r
  pub dead : IsDead v.table 0

-- the offset of a row: the number of entries before it
abbrev pub offset_of : Table → ℕ → ℕ
offset_of d r = r * (d.class_count + 1)

-- the rows at these offsets, if a row has this number of entries
abbrev pub rows_at : ℕ → List ℕ → List ℕ
rows_at columns offsets = map (λ offset. offset / columns) offsets

-- this is the offset of a row
abbrev pub IsOffset : Table → ℕ → Type 0
IsOffset d offset = (r : ℕ) × (r < length d.patterns) × (offset ≡ offset_of d r)

-- the row over a unit from the row at an offset is at the next offset
abbrev pub IsNext : Table → ℕ → Option ℕ → ℕ → Type 0
IsNext d offset u next = (r : ℕ) → r < length d.patterns → offset ≡ offset_of d r
    → (row_over d r u < length d.patterns) × (next ≡ offset_of d (row_over d r u))

-- this is the number of the row at an offset
abbrev pub IsRowAt : Table → ℕ → ℕ → Type 0
IsRowAt d offset r = (r < length d.patterns) × (offset ≡ offset_of d r)

-- the product of an offset and this number, over 2^32, is the number of the row
pub record IsInverse (d : Table) (inverse : ℕ) : Type 0 where
  pub room : (r : ℕ) → r < length d.patterns → offset_of d r * inverse < 2 ^ 64
  pub row : (r : ℕ) → r < length d.patterns → offset_of d r * inverse / 4294967296 ≡ r

-- the entries are stored as offsets
pub record IsStored (v : DfaValue) (offsets : List ℕ) : Type 0 where
  pub dfa : IsDfa v
  pub count : length offsets ≡ length v.table.next
  pub entries : (e : ℕ) → e < length offsets
      → slice_index offsets e ≡ offset_of v.table (slice_index v.table.next e)
