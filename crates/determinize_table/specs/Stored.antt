-- How a transition table is stored: for each cached state a row of 258 numbers.
use Rattle.std.specs.Prelude.{ℕ, ◌+◌, ◌*◌, ◌/◌, Bool, true, cond, Option, Some, None, List, nat_eq, nat_lt, slice_get}
use Rattle.std.specs.Prelude.{slice_index}
use Rattle.determinize_core.specs.Value.{Value}
use Rattle.determinize_table.specs.declared.state_id.TheConstants.{COLUMNS}
use Rattle.determinize_table.specs.Table.{Table, index_in}

-- the column of a unit in a row
abbrev pub column : Option ℕ → ℕ
column (Some byte) = byte
column None = 256

-- whether a unit is a byte or EOI
abbrev pub is_unit : Option ℕ → Bool
is_unit (Some byte) = nat_lt byte 256
is_unit None = true

-- the entry of a unit in the row of the state at an index
abbrev pub entry_at : List ℕ → ℕ → Option ℕ → ℕ
entry_at rows p u = slice_index rows (p * COLUMNS + column u)

-- the state to which an entry leads: the one whose row has this offset; none for 1, the offset of
-- no row
abbrev pub state_at : List Value → ℕ → Option Value
state_at states entry = cond (nat_eq entry 1) None (slice_get states (entry / COLUMNS))

-- the target in the row of the state at an index, if there is such a state
abbrev pub target_from : List Value → List ℕ → Option ℕ → Option ℕ → Option Value
target_from states rows u None = None
target_from states rows u (Some p) = cond (is_unit u) (state_at states (entry_at rows p u)) None

-- the target of the transition from a state over a unit
abbrev pub target_in : List Value → List ℕ → Value → Option ℕ → Option Value
target_in states rows v u = target_from states rows u (index_in states v)

-- the table that states and rows store
abbrev pub table_in : List Value → List ℕ → Table
table_in states rows = record { states = states; target = target_in states rows }
