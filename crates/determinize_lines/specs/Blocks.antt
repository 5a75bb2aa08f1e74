-- What a reader of blocks is seen as.
use Rattle.byte_set.specs.Sets.{is_member}
use Rattle.std.specs.Prelude.{◌≡◌, ◌-◌, ◌⊎◌, ℕ, Bool, List, Some, [], false, length, slice_get, true}

-- the set of the byte that ends a line, the block, what was read of the line behind it, and whether
-- the text was read to its end
pub record BlocksValue : Type 0 where
  pub ends : List Bool
  pub lines : List ℕ
  pub rest : List ℕ
  pub has_ended : Bool

-- a text of which nothing is read yet
abbrev pub begun : List Bool → BlocksValue
begun ends = record { ends = ends; lines = []; rest = []; has_ended = false }

-- the last byte of the block ends a line, or the text ends with the block
abbrev pub AreWhole : BlocksValue → Type 0
AreWhole blocks = ((byte : ℕ) × (slice_get blocks.lines (length blocks.lines - 1) ≡ Some byte)
    × (is_member blocks.ends byte ≡ true))
    ⊎ ((blocks.has_ended ≡ true) × (blocks.rest ≡ []))
