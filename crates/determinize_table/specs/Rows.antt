-- What is true of the rows of a transition table, and what lookups in it return.
use Rattle.std.specs.Prelude.{◌≡◌, ℕ, ◌+◌, ◌*◌, ◌<◌, Option, Some, None, List, length, slice_get, true}
use Rattle.std.specs.Prelude.{slice_index, slice_index_or}
use Rattle.determinize_engine.specs.States.{EachApart}
use Rattle.determinize_core.specs.Value.{Value}
use Rattle.determinize_table.specs.declared.state_id.TheConstants.{COLUMNS, UNITS}
use Rattle.determinize_table.specs.Stored.{entry_at, is_unit, table_in, target_in}
use Rattle.determinize_table.specs.Table.{Table, empty, with_value}
use Rattle.determinize_table.specs.Tags.{tag_in, tag_of}

-- an entry is the offset of the row of the target, or 1 if the target is unknown: 1 is the offset
-- of no row
abbrev pub Leads : List Value → ℕ → Option Value → Type 0
Leads states entry None = entry ≡ 1
Leads states entry (Some w) = (p : ℕ) × (entry ≡ p * COLUMNS) × (slice_get states p ≡ Some w)

-- a row for each of the states, of which no two are equal: in the column of a unit it has the
-- target of the transition, and in the last one the tag of the state; there are no other
-- transitions
pub record AreRows (states : List Value) (rows : List ℕ)
    (target : Value → Option ℕ → Option Value) : Type 0 where
  pub size : length rows ≡ length states * COLUMNS
  pub apart : EachApart states
  pub entries : (p : ℕ) (v : Value) (u : Option ℕ) → slice_get states p ≡ Some v → is_unit u ≡ true
      → Leads states (entry_at rows p u) (target v u)
  pub others : (v : Value) (u : Option ℕ)
      → ((p : ℕ) → slice_get states p ≡ Some v → is_unit u ≡ true → ⊥) → target v u ≡ None
  pub tags : (p : ℕ) (v : Value) → slice_get states p ≡ Some v
      → tag_in (slice_index rows (p * COLUMNS + UNITS)) ≡ tag_of v

-- the same of the table that they store
abbrev pub IsStored : List Value → List ℕ → Type 0
IsStored states rows = AreRows states rows (target_in states rows)

-- the id that a lookup returns: that of the target; `None` if the transition is not cached
abbrev pub IsTarget : Table → Value → Option ℕ → Option ℕ → Type 0
IsTarget t v u None = t.target v u ≡ None
IsTarget t v u (Some id) = (t.target v u ≡ slice_get t.states id) × (id < length t.states)

-- the table with one more state
abbrev pub with_state : Table → Value → Table
with_state t v = record { states = with_value t.states v; target = t.target }

-- what the program's table is seen as: states, their rows, and for each slot of a start, by its
-- number, the index of the start state that is kept
pub record StoredTable : Type 0 where
  pub states : List Value
  pub rows : List ℕ
  pub starts : List (Option ℕ)

-- the table that it stores
abbrev pub table_of : StoredTable → Table
table_of t = table_in t.states t.rows

-- neither states nor transitions are cached, and no start is kept
pub record IsEmpty (t : StoredTable) : Type 0 where
  pub table : table_of t ≡ empty
  pub starts : (i : ℕ) → slice_index_or t.starts i None ≡ None

-- each kept start was kept before, and is still that of the same state
abbrev pub StartsStay : StoredTable → StoredTable → Type 0
StartsStay old new = (i index : ℕ) → slice_index_or new.starts i None ≡ Some index
    → (slice_index_or old.starts i None ≡ Some index)
    × ((v : Value) → slice_get old.states index ≡ Some v → slice_get new.states index ≡ Some v)
