-- Bytes of a text that a scan passes: none of them is in a set.
use Rattle.std.specs.Prelude.{◌≤◌, ℕ, Bool, List, length}
use Rattle.byte_set.specs.Sets.{HasNone, is_member}
use Rattle.determinize_below.specs.Semantics.{Text}

-- no byte of a text from one index up to another is in a set
pub record IsPassed (set : List Bool) (text : Text) (from to : ℕ) : Type 0 where
  pub none : HasNone (is_member set) text.bytes from to
  pub more : from ≤ to
  pub within : to ≤ length text.bytes
