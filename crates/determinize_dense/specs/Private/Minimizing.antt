-- Blocks of rows of a table, and the table of the blocks.
use Rattle.std.specs.Prelude.{◌≡◌, ◌<◌, ◌≤◌, ◌+◌, ◌*◌, ◌/◌, ◌%◌, ℕ, All, List, None, Option, Some, [], get_or, length}
use Rattle.std.specs.Prelude.{slice_index}
use Rattle.determinize_below.specs.Truth.{IsUnit}
use Rattle.determinize_dense.specs.Dfa.{IsDfaOf}
use Rattle.determinize_dense.specs.Least.{AreApart, IsLeast, IsReachedRow}
use Rattle.determinize_dense.specs.Private.Partition.{AreBlocks, AreTogether, Blocks}
use Rattle.determinize_dense.specs.Table.{DfaValue, Table, patterns_at, row_after}
use Rattle.determinize_start.specs.declared.start.TheConstants.StartSlot.{COUNT}

-- the row after a row in a column
abbrev pub entry : Table → ℕ → ℕ → ℕ
entry d r c = slice_index d.next (r * (d.class_count + 1) + c)

-- the rows of one block list the same patterns, and those of two blocks are apart
pub record IsPartition (d : Table) (p : Blocks) : Type 0 where
  pub blocks : AreBlocks p
  pub count : length p.numbers ≡ length d.patterns
  pub patterns : (r s : ℕ) → r < length d.patterns → s < length d.patterns → AreTogether p r s
      → patterns_at d r ≡ patterns_at d s
  pub apart : (r s : ℕ) → r < length d.patterns → s < length d.patterns
      → (AreTogether p r s → ⊥) → AreApart d r s

-- the first row that lists the same patterns
pub record IsFirstAlike (d : Table) (row first : ℕ) : Type 0 where
  pub same : patterns_at d first ≡ patterns_at d row
  pub least : (r : ℕ) → r < first → patterns_at d r ≡ patterns_at d row → ⊥

-- for each list, the first of the first n rows that lists these patterns
pub record AreFirsts (d : Table) (n : ℕ) (find : List ℕ → Option ℕ) : Type 0 where
  pub found : (xs : List ℕ) (r : ℕ) → find xs ≡ Some r
      → (patterns_at d r ≡ xs) × ((s : ℕ) → s < r → patterns_at d s ≡ xs → ⊥)
  pub none : (xs : List ℕ) → find xs ≡ None → (r : ℕ) → r < n → patterns_at d r ≡ xs → ⊥

-- the same for each row
pub record AreFirstAlike (d : Table) (values : List ℕ) : Type 0 where
  pub count : length values ≡ length d.patterns
  pub firsts : (r : ℕ) → r < length values → IsFirstAlike d r (slice_index values r)

-- after n units from the row, a row lists patterns
pub record ListsAfter (d : Table) (r n : ℕ) : Type 0 where
  pub us : List (Option ℕ)
  pub units : All IsUnit us
  pub count : length us ≡ n
  pub lists : patterns_at d (row_after d r us) ≡ [] → ⊥

-- the number is one of units after which a row lists patterns, or that of the rows; it is 0 for a
-- row that lists some
pub record IsDistanceSoFar (d : Table) (r n : ℕ) : Type 0 where
  pub far : n ≤ length d.patterns
  pub lists : n < length d.patterns → ListsAfter d r n
  pub listing : (patterns_at d r ≡ [] → ⊥) → n ≡ 0

-- the same for each row
pub record AreDistancesSoFar (d : Table) (values : List ℕ) : Type 0 where
  pub count : length values ≡ length d.patterns
  pub each : (r : ℕ) → r < length values → IsDistanceSoFar d r (slice_index values r)

-- the number of a row is at most one more than that of each of its entries
abbrev pub IsShort : Table → List ℕ → ℕ → Type 0
IsShort d values r = (c : ℕ) → c < d.class_count + 1
    → slice_index values r ≤ slice_index values (entry d r c) + 1

-- so they are the least such numbers
pub record AreDistances (d : Table) (values : List ℕ) : Type 0 where
  pub so_far : AreDistancesSoFar d values
  pub short : (r : ℕ) → r < length d.patterns → IsShort d values r

-- the block of the entry of each row in a column
pub record AreTargets (d : Table) (p : Blocks) (c : ℕ) (values : List ℕ) : Type 0 where
  pub count : length values ≡ length d.patterns
  pub blocks : (r : ℕ) → r < length values
      → slice_index values r ≡ slice_index p.numbers (entry d r c)

-- in this column, the entries of the rows of one block are in one block
abbrev pub IsSettled : Table → Blocks → ℕ → Type 0
IsSettled d p c = (r s : ℕ) → r < length d.patterns → s < length d.patterns → AreTogether p r s
    → AreTogether p (entry d r c) (entry d s c)

-- the same in each column
abbrev pub IsStable : Table → Blocks → Type 0
IsStable d p = (c : ℕ) → c < d.class_count + 1 → IsSettled d p c

-- blocks that were split by their entries in a column; without more blocks they are settled there
pub record IsSplitBy (d : Table) (c : ℕ) (p q : Blocks) : Type 0 where
  pub partition : IsPartition d q
  pub more : length p.members ≤ length q.members
  pub stays : length q.members ≡ length p.members → (q ≡ p) × IsSettled d p c

-- the rows of one block list the same patterns, and their entries are in one block
pub record IsGrouping (d : Table) (p : Blocks) : Type 0 where
  pub blocks : AreBlocks p
  pub count : length p.numbers ≡ length d.patterns
  pub patterns : (r s : ℕ) → r < length d.patterns → s < length d.patterns → AreTogether p r s
      → patterns_at d r ≡ patterns_at d s
  pub stable : IsStable d p

-- the block of the entry of the member, for an entry of the table of the blocks
abbrev pub merged_entry : Table → Blocks → ℕ → ℕ
merged_entry d p e = slice_index p.numbers
    (entry d (slice_index p.members (e / (d.class_count + 1))) (e % (d.class_count + 1)))

-- entries of the table of the blocks
abbrev pub AreMergedEntries : Table → Blocks → List ℕ → Type 0
AreMergedEntries d p next = (e : ℕ) → e < length next → slice_index next e ≡ merged_entry d p e

-- a row for each block
pub record AreMergedRows (d : Table) (p : Blocks) (next : List ℕ) : Type 0 where
  pub size : length next ≡ length p.members * (d.class_count + 1)
  pub entries : AreMergedEntries d p next

-- the blocks of the starts
pub record AreMergedStarts (d : Table) (p : Blocks) (starts : List ℕ) : Type 0 where
  pub count : length starts ≡ COUNT
  pub blocks : (i : ℕ) → i < COUNT
      → slice_index starts i ≡ slice_index p.numbers (slice_index d.starts i)

-- the patterns that the members list
pub record AreMergedLists (d : Table) (p : Blocks) (lists : List (List ℕ)) : Type 0 where
  pub count : length lists ≡ length p.members
  pub rows : (b : ℕ) → b < length lists
      → get_or lists b [] ≡ patterns_at d (slice_index p.members b)

-- the rows of the blocks
pub record IsMerged (v : DfaValue) (p : Blocks) (merged : DfaValue) : Type 0 where
  pub nfa : merged.nfa ≡ v.nfa
  pub kind : merged.kind ≡ v.kind
  pub means : IsDfaOf merged.nfa merged.kind merged.table
  pub count : length merged.table.patterns ≡ length p.members
  pub dead : patterns_at merged.table 0 ≡ []
  pub patterns : (b : ℕ) → b < length p.members
      → patterns_at merged.table b ≡ patterns_at v.table (slice_index p.members b)
  pub columns : merged.table.class_count ≡ v.table.class_count
  pub apart : (b c : ℕ) → b < length p.members → c < length p.members
      → AreApart v.table (slice_index p.members b) (slice_index p.members c)
      → AreApart merged.table b c
  pub reached : (b : ℕ) → b < length merged.table.patterns
      → IsReachedRow merged.nfa merged.table b

-- a DFA of the same NFA and match kind, with the fewest rows
pub record IsMinimized (v w : DfaValue) : Type 0 where
  pub nfa : w.nfa ≡ v.nfa
  pub kind : w.kind ≡ v.kind
  pub means : IsDfaOf w.nfa w.kind w.table
  pub least : IsLeast w.nfa w.table
  pub fewer : length w.table.patterns ≤ length v.table.patterns
