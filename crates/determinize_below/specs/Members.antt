-- The value of a sparse set: distinct ids below a capacity.
use Rattle.std.specs.Prelude.{ℕ, ◌<◌, Bool, List, All, nat_eq}
use Rattle.std.specs.List.{IsDistinct, list_any}

-- the ids in insertion order, and the capacity
pub record Members : Type 0 where
  pub ids : List ℕ
  pub capacity : ℕ

-- whether the id is in the list
abbrev pub has_id : List ℕ → ℕ → Bool
has_id ids id = list_any (nat_eq id) ids

-- the ids are distinct and below the capacity
pub record AreMembers (set : Members) : Type 0 where
  pub distinct : IsDistinct nat_eq set.ids
  pub below : All (λ id. id < set.capacity) set.ids
