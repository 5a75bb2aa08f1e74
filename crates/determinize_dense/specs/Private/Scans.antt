-- The sets by which scans read a text: a byte that is in none does not leave the row of the set.
use Rattle.std.specs.Prelude.{◌≡◌, ◌<◌, ◌+◌, ℕ, Bool, List, Some, false}
use Rattle.std.specs.Prelude.{slice_index_or}
use Rattle.byte_set.specs.Sets.{is_member}
use Rattle.determinize_dense.specs.Table.{Table, row_over}
use Rattle.determinize_dense.specs.declared.scans.TheConstants.{SETS}

-- a byte that is not in the set leads the row to itself
abbrev pub IsStaying : Table → ℕ → List Bool → Type 0
IsStaying d r set = (byte : ℕ) → byte < 256 → is_member set byte ≡ false
    → row_over d r (Some byte) ≡ r

-- these are such sets of rows one after the other
abbrev pub AreAllStaying : Table → ℕ → List (List Bool) → Type 0
AreAllStaying d first sets = (k : ℕ) (other : List Bool) → k < SETS
    → IsStaying d (first + k) (slice_index_or sets k other)
