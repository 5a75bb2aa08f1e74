-- Whole DFAs, however they are kept.
use Rattle.std.specs.Prelude.{◌≡◌, ◌<◌, ℕ, Bool, Option, length, slice_index}
use Rattle.determinize_below.specs.Semantics.{Nfa}
use Rattle.determinize_below.specs.Truth.{IsUnit}
use Rattle.determinize_start.specs.StartKinds.{start_kind_of}
use Rattle.determinize_start.specs.StartSlots.{slot_number, slot_of}
use Rattle.determinize_dense.specs.Bytes.{Stored}
use Rattle.determinize_dense.specs.Dfa.{IsDfaOf}
use Rattle.determinize_dense.specs.Table.{row_over}

-- the row of a start after a byte, or after nothing
abbrev pub first_row : Stored → Bool → Option ℕ → ℕ
first_row s anchored p = slice_index s.table.starts
    (slot_number (slot_of anchored (start_kind_of s.terminator p)))

-- what is stored is of a DFA of this NFA
pub record IsStoredOf (nfa : Nfa) (s : Stored) : Type 0 where
  pub means : IsDfaOf nfa s.kind s.table
  pub reverse : s.reverse ≡ nfa.reverse
  pub terminator : s.terminator ≡ nfa.terminator

-- the starts and the entries are numbers of rows
pub record HasRowsIn (s : Stored) : Type 0 where
  pub starts : (anchored : Bool) (p : Option ℕ) → IsUnit p
      → first_row s anchored p < length s.table.patterns
  pub rows : (r : ℕ) (u : Option ℕ) → r < length s.table.patterns → IsUnit u
      → row_over s.table r u < length s.table.patterns

-- where a walk is: the DFA by which it goes, and a row
pub record Place (D : Type 0) : Type 0 where
  pub automaton : D
  pub row : ℕ
