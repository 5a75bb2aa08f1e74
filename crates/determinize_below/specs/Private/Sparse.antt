-- The layout of a sparse set: a list of ids, and words with a bit for each number below the
-- capacity.
use Rattle.std.specs.Prelude.{◌≡◌, ℕ, ◌/◌, ◌%◌, ◌<◌, ◌≤◌, Bool, List, All, length, nat_eq, slice_index}
use Rattle.std.specs.Int.{bit_at, div_ceil}
use Rattle.std.specs.List.{IsDistinct}
use Rattle.determinize_below.specs.Members.{has_id}
use Rattle.determinize_below.specs.declared.primitives.TheConstants.{ID_LIMIT}

-- whether the bit of an id is set in words of 64 bits
unfoldable pub has_bit : List ℕ → ℕ → Bool
has_bit words id = nat_eq (bit_at (slice_index words (id / 64)) (id % 64)) 1

-- distinct ids below a capacity, room for that many, and words with a bit for each number below the
-- capacity, set exactly for these ids
pub record IsSparse (ids words : List ℕ) (capacity room : ℕ) : Type 0 where
  pub distinct : IsDistinct nat_eq ids
  pub below : All (λ id. id < capacity) ids
  pub small : capacity ≤ ID_LIMIT
  pub room_for_all : capacity ≤ room
  pub word_for_each : length words ≡ div_ceil capacity 64
  pub marked : (id : ℕ) → id < capacity → has_bit words id ≡ has_id ids id
