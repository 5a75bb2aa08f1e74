-- The transition over all bytes, and the state of the prefix that has it.
use Rattle.std.specs.Prelude.{ℕ, Bool, false, nat_eq}
use mathlib.Core.Bool.{◌&&◌}
use Rattle.determinize_below.specs.Semantics.{Node, BinaryUnion, ByteRange}

-- whether the state is the transition over all bytes to the id
abbrev pub passes_any : ℕ → Node → Bool
passes_any next (ByteRange t) = nat_eq t.start 0 && (nat_eq t.end 255 && nat_eq t.next next)
passes_any next _ = false

-- the second alternate of a union of two; another id for any other state
abbrev pub second_or : Node → ℕ → ℕ
second_or (BinaryUnion a b) other = b
second_or node other = other
