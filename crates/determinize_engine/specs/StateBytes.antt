-- The memory of states that are kept with a map to their indices.
use Rattle.std.specs.Prelude.{ℕ, ◌+◌, ◌*◌, List, cond, length, nat_lt, sum_by}
use Rattle.determinize_state.specs.Spelling.{spell}
use Rattle.determinize_state.specs.Value.{Value}

-- the heap memory of a value: its encoding, if that does not fit in the state itself
abbrev pub heap_bytes : Value → ℕ
heap_bytes v = cond (nat_lt 30 (length (spell v))) (length (spell v)) 0

-- the memory of the states and of the map, in which each is there once more, in bytes
abbrev pub table_bytes : List Value → ℕ
table_bytes states = length states * 72 + sum_by (λ v. heap_bytes v * 2) states
