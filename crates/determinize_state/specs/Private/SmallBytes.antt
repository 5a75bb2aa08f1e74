-- The storage of the bytes of a state.
use Rattle.std.specs.Prelude.{ℕ, ◌≤◌, List, take}
use Rattle.determinize_state.specs.declared.state.small_bytes.Form.{Form}
use Rattle.determinize_state.specs.declared.state.small_bytes.Form.TheVariants.{Short, Long}

-- the bytes of the list
abbrev pub bytes_in : {A : Type 0} → Form A → List ℕ
bytes_in (Short alloc len bytes) = take len bytes
bytes_in (Long bytes) = bytes.items

-- inline bytes are at most 30
abbrev pub IsWithin : {A : Type 0} → Form A → Type 0
IsWithin (Short alloc len bytes) = len ≤ 30
IsWithin (Long bytes) = Unit {0}
