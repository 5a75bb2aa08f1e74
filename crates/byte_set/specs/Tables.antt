-- Two tables of sixteen bytes that are a set of bytes, and what vectors compute from them.
use Rattle.std.specs.Prelude.{◌≡◌, ℕ, ◌+◌, ◌*◌, ◌^◌, ◌<◌, ◌/◌, ◌%◌, ◌==◌, if◌then◌else◌, Bool, not, List, slice_index, map, nat_lt, bit_and}
use Rattle.std.specs.List.{range_with_len}
use Rattle.byte_set.specs.Sets.{is_member}

-- there is some bit
abbrev pub is_some_bit : ℕ → Bool
is_some_bit bits = not (bits == 0)

-- what is looked up for byte b has some bit
abbrev pub passes : (ℕ → ℕ) → ℕ → Bool
passes bits b = is_some_bit (bits b)

-- the entry for byte b: in the first table for bytes below 128, and else in the second one
abbrev pub entry_of : List ℕ → List ℕ → ℕ → ℕ
entry_of low high b = if nat_lt b 128 then slice_index low (b % 16) else slice_index high (b % 16)

-- the bit of byte b in its entry
abbrev pub bits_of : List ℕ → List ℕ → ℕ → ℕ
bits_of low high b = bit_and (entry_of low high b) (2 ^ (b / 16 % 8))

-- the set of the bytes that have their bit
unfoldable pub set_of : List ℕ → List ℕ → List Bool
set_of low high = map (passes (bits_of low high)) (range_with_len 0 256)

-- the entry has a bit for each flag of eight bytes, of which the first is byte b, and each is 16
-- above the one before
abbrev pub IsEntry : List Bool → ℕ → ℕ → Type 0
IsEntry flags b entry = (h : ℕ) → h < 8
    → is_some_bit (bit_and entry (2 ^ h)) ≡ is_member flags (b + 16 * h)

-- 255 for byte x, and else 0
abbrev pub same_bits : ℕ → ℕ → ℕ
same_bits x b = if b == x then 255 else 0
