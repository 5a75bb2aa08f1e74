-- The encoding of NFA states: the differences of consecutive ids as zigzag varints.
use Rattle.std.specs.Prelude.{◌≡◌, ℕ, ◌+◌, ◌-◌, ◌*◌, ◌/◌, ◌%◌, ◌≤◌, List, [], ◌∷◌, ◌++◌, All, nat_lt, nat_le, nat_eq, suc, zero, if◌then◌else◌}
use Rattle.determinize_below.specs.declared.primitives.TheConstants.{MAX_ID}

-- the difference of two ids as a number: 2d for d of 0 or more, 2d - 1 if the second is d less
abbrev pub zigzag : ℕ → ℕ → ℕ
zigzag from to = if nat_le from to then 2 * (to - from) else 2 * (from - to) - 1

-- the id whose difference to `from` is this number
abbrev pub unzigzag : ℕ → ℕ → ℕ
unzigzag from number = if nat_eq (number % 2) 0 then from + number / 2 else from - (number + 1) / 2

-- a number in groups of 7 bits, the low group first, in at most the given number of bytes and one
-- more
abbrev pub groups : ℕ → ℕ → List ℕ
groups zero number = number ∷ []
groups (suc more) number =
    if nat_lt number 128 then number ∷ [] else (128 + number % 128) ∷ groups more (number / 128)

-- a number in as few groups as it needs, at most five
unfoldable pub varint : ℕ → List ℕ
varint number = groups 4 number

-- the ids in order, each by its difference to the previous one
abbrev pub deltas : ℕ → List ℕ → List ℕ
deltas from [] = []
deltas from (id ∷ ids) = varint (zigzag from id) ++ deltas id ids

-- the last of the ids, or `from` if there is none
abbrev pub last_id : ℕ → List ℕ → ℕ
last_id from [] = from
last_id from (id ∷ ids) = last_id id ids

-- the ids that the bytes encode after `from`, where a part `low` of the first difference is read
-- and the next group has this weight
abbrev pub ids_from : ℕ → ℕ → ℕ → List ℕ → List ℕ
ids_from from low weight [] = []
ids_from from low weight (byte ∷ bytes) =
    if nat_lt byte 128 then unzigzag from (low + weight * byte)
    ∷ ids_from (unzigzag from (low + weight * byte)) 0 1 bytes
    else ids_from from (low + weight * (byte - 128)) (weight * 128) bytes

-- the bytes encode ids in range, after `from`
pub record IsDeltas (from : ℕ) (bytes : List ℕ) : Type 0 where
  pub small : from ≤ MAX_ID
  pub ids : All (λ id. id ≤ MAX_ID) (ids_from from 0 1 bytes)
  pub spelled : deltas from (ids_from from 0 1 bytes) ≡ bytes
