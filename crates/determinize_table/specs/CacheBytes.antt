-- The memory of a transition table.
use Rattle.std.specs.Prelude.{ℕ, ◌+◌, ◌*◌, List, length}
use Rattle.determinize_core.specs.Value.{Value}
use Rattle.determinize_engine.specs.StateBytes.{table_bytes}

-- the memory of the states, of the map to their indices and of their rows, in bytes
abbrev pub cache_bytes : List Value → ℕ
cache_bytes states = table_bytes states + length states * 1032
