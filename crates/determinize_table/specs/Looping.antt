-- The loop of a table: a cached state with a transition to itself over the bytes outside of a set.
use Rattle.std.specs.Prelude.{◌≡◌, ◌<◌, ◌≤◌, ℕ, Bool, false, List, length, Option, Some, slice_index, slice_index_or, true}
use Rattle.std.specs.Option.{IfSome}
use Rattle.byte_set.specs.Sets.{is_member}
use Rattle.determinize_core.specs.Value.{Value, dead}
use Rattle.determinize_table.specs.Rows.{IsStored, StoredTable, table_of}
use Rattle.determinize_table.specs.Table.{Table}
use Rattle.determinize_table.specs.Tags.{is_last_tag, tag_of}
use Rattle.determinize_table.specs.declared.looping.Loop.{Loop}

-- the transition from a state over a byte is cached, and its target is the state
abbrev pub IsLoopOver : Table → Value → ℕ → Type 0
IsLoopOver t v byte = t.target v (Some byte) ≡ Some v

-- a cached state has a transition to itself over each byte that is not in a set
abbrev pub IsLoopOutside : Table → Value → List Bool → Type 0
IsLoopOutside t v leaving = (byte : ℕ) → byte < 256 → is_member leaving byte ≡ false
    → IsLoopOver t v byte

-- so does the state with an id, and no search ends at it
pub record IsLoop (t : Table) (l : Loop) : Type 0 where
  pub inside : l.id < length t.states
  pub staying : IsLoopOutside t (slice_index_or t.states l.id dead) l.leaving
  pub plain : is_last_tag true (tag_of (slice_index_or t.states l.id dead)) ≡ false

-- what is true of a table: of its rows, and of its loop
pub record IsWhole (t : StoredTable) (l : Option Loop) : Type 0 where
  pub stored : IsStored t.states t.rows
  pub looping : IfSome l (IsLoop (table_of t))

-- bytes of a text that a scan passes: over each of them a state has a transition to itself, and if
-- there are any, no search ends at the state
pub record IsScanned (t : Table) (v : Value) (bytes : List ℕ) (from to : ℕ) : Type 0 where
  pub more : from ≤ to
  pub within : to ≤ length bytes
  pub over : (k : ℕ) → from ≤ k → k < to → IsLoopOver t v (slice_index bytes k)
  pub plain : from < to → is_last_tag true (tag_of v) ≡ false
