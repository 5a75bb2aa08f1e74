-- Where a walk or a search is: at a cached state, or at one that is not cached.
use Rattle.std.specs.Prelude.{◌≡◌, ◌<◌, ℕ, false, List, None, Option, Some, length, slice_get, slice_index_or}
use Rattle.std.specs.List.{list_any}
use Rattle.determinize_core.specs.Equality.{same}
use Rattle.determinize_core.specs.Value.{Value, dead}
use Rattle.determinize_table.specs.declared.table.Cursor.{Cursor}
use Rattle.determinize_table.specs.declared.table.Cursor.TheVariants.{Cached, Uncached}

-- the value of the state at a cursor
abbrev pub cursor_value : {A : Type 0} → List Value → Cursor A → Value
cursor_value states (Cached id) = slice_index_or states id dead
cursor_value states (Uncached state) = state

-- an id is that of a cached state, and a state that a cursor owns is not cached
abbrev pub IsCursor : {A : Type 0} → List Value → Cursor A → Type 0
IsCursor states (Cached id) = id < length states
IsCursor states (Uncached state) = list_any (same state) states ≡ false

-- the index of a value, as it was looked up. The state at `source` may have been cached since, so a
-- value that was not found may be that of this state
abbrev pub IsIndexBefore : List Value → ℕ → Value → Option ℕ → Type 0
IsIndexBefore states source v None =
    same (slice_index_or states source dead) v ≡ false → list_any (same v) states ≡ false
IsIndexBefore states source v (Some id) = slice_get states id ≡ Some v

-- the cursor is at this value
pub record IsAt {A : Type 0} (states : List Value) (cursor : Cursor A) (v : Value) : Type 0 where
  pub cursor_is : IsCursor states cursor
  pub value : cursor_value states cursor ≡ v
