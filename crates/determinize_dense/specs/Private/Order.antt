-- The order of rows: row 0, the rows that list patterns, those that are scanned, and the others.
use Rattle.std.specs.Prelude.{◌≡◌, ◌<◌, ◌≤◌, ℕ, Bool, List, [], length, slice_index, true}
use Rattle.determinize_state.specs.Value.{is_nonempty}
use Rattle.determinize_dense.specs.Dfa.{IsDfaOf}
use Rattle.determinize_dense.specs.Least.{IsLeast}
use Rattle.determinize_dense.specs.Private.Rows.{IsInverse, IsStored, offset_of}
use Rattle.determinize_dense.specs.Private.Scans.{AreAllStaying}
use Rattle.determinize_dense.specs.Table.{DfaValue, Table, patterns_at}
use Rattle.determinize_dense.specs.declared.partition.TheConstants.{RANKS}

-- no row at a greater offset lists patterns
abbrev pub ListsNoneAbove : Table → ℕ → Type 0
ListsNoneAbove d offset =
    (r : ℕ) → r < length d.patterns → offset < offset_of d r → patterns_at d r ≡ []

-- after row 0 and up to the last match, and only there, the rows list patterns
pub record IsOrdered (d : Table) (last_match last_special : ℕ) : Type 0 where
  pub dead : patterns_at d 0 ≡ []
  pub some : (r : ℕ) → 0 < r → r < length d.patterns → offset_of d r ≤ last_match
      → is_nonempty (patterns_at d r) ≡ true
  pub none : ListsNoneAbove d last_match
  pub more : last_match ≤ last_special

-- a DFA in order, whose entries are stored as offsets, with the sets of rows from the first one
-- that is scanned on, and the inverse of its row length
pub record IsArranged (v : DfaValue) (offsets : List ℕ) (last_match last_special first_scanned : ℕ)
    (leaving : List (List Bool)) (inverse : ℕ) : Type 0 where
  pub stored : IsStored v offsets
  pub ordered : IsOrdered v.table last_match last_special
  pub staying : AreAllStaying v.table first_scanned leaving
  pub inverted : IsInverse v.table inverse

-- the rank of a row: 0 is that of row 0, and 1 that of rows that list patterns
pub record IsRank (d : Table) (r rank : ℕ) : Type 0 where
  pub first : r ≡ 0 → rank ≡ 0
  pub some : 0 < r → rank ≤ 1 → is_nonempty (patterns_at d r) ≡ true
  pub none : 1 < rank → patterns_at d r ≡ []
  pub few : rank < RANKS

-- the rank of each row
pub record AreRanks (d : Table) (ranks : List ℕ) : Type 0 where
  pub count : length ranks ≡ length d.patterns
  pub some : 0 < length ranks
  pub each : (r : ℕ) → r < length ranks → IsRank d r (slice_index ranks r)

-- a DFA with the same rows in order
pub record IsInOrder (v w : DfaValue) : Type 0 where
  pub nfa : w.nfa ≡ v.nfa
  pub kind : w.kind ≡ v.kind
  pub means : IsDfaOf w.nfa w.kind w.table
  pub rows : length w.table.patterns ≡ length v.table.patterns
  pub least : IsLeast v.nfa v.table → IsLeast w.nfa w.table
