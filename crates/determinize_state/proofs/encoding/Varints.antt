-- Varints and the differences of ids: decoding inverts encoding.
-- Main statements: ids_from-deltas, first_read, varint-more.
-- Used by: RoundTrip, the functions that read and write a varint.
-- Idea: seven bits at a time; a zigzag number is even or odd with its sign.
use Rattle.determinize_state.proofs.Common.{◌≡◌, ℕ, ◌+◌, ◌-◌, ◌*◌, ◌/◌, ◌%◌, ◌<◌, ◌≤◌, Option, Some, None, IfNone, IfSome, List, [], ◌∷◌, ◌++◌, All, nat_lt, suc, zero, refl, arith, sym, ap, ◌∙◌, append_assoc, zero-add, lit≤, length, drop, IsDeltas, zigzag, unzigzag, groups, deltas, ids_from, last_id, All-head, All-tail, nat_tests, read, MAX_ID}
use Rattle.determinize_state.specs.Varint.{varint}
use Rattle.std.proofs.Math.Nat.{one-mul, mul-le-mul_left}

unzigzag-zigzag : (from to : ℕ) → unzigzag from (zigzag from to) ≡ to
unzigzag-zigzag from to = grind (arith, nat_tests)

-- the numbers below `room more` fit in `more + 1` groups
abbrev room : ℕ → ℕ
room zero = 128
room (suc more) = 128 * room more

room_least : (more : ℕ) → 128 ≤ room more
room_least zero = lit≤ tt
room_least (suc more) = omega (arith, room_least more)

low_group : (low weight n : ℕ) → low + weight * (128 + n % 128 - 128) + weight * 128 * (n / 128) ≡ low + weight * n
low_group low weight n =
    let rest : 128 + n % 128 - 128 ≡ n % 128 = omega arith in
    let whole : 128 * (n / 128) + n % 128 ≡ n = omega arith in
    rw rest (omega (arith, ap (λ m. weight * m) whole))

-- reading the groups of a number gives the number
read-groups : (more n low weight : ℕ) (rest : List ℕ) → n < room more → weight * room more ≤ room 4
    → read low weight (groups more n ++ rest) ≡ Some (low + weight * n, rest)
read-groups zero n low weight rest small fits = grind (arith, nat_tests)
read-groups (suc more) n low weight rest small fits =
    let least : weight * 128 ≤ weight * room more = mul-le-mul_left weight (room_least more) in
    let next = read-groups more (n / 128) (low + weight * (128 + n % 128 - 128)) (weight * 128) rest
    (omega arith) (omega arith) in
    grind (arith, nat_tests, next, low_group low weight n)

-- the first of the ids
read-deltas : (from id : ℕ) (ids : List ℕ) → from ≤ MAX_ID → id ≤ MAX_ID
    → read 0 1 (deltas from (id ∷ ids)) ≡ Some (zigzag from id, deltas id ids)
unfolding varint
read-deltas from id ids small here =
    let fits : zigzag from id < room 4 = grind (arith, nat_tests) in
    read-groups 4 (zigzag from id) 0 1 (deltas id ids) fits (lit≤ tt)
    ∙ rw (zero-add (1 * zigzag from id), one-mul (zigzag from id))

ids_from-read : (from low weight : ℕ) (bytes : List ℕ) (number : ℕ) (after : List ℕ)
    → read low weight bytes ≡ Some (number, after)
    → ids_from from low weight bytes ≡ unzigzag from number ∷ ids_from (unzigzag from number) 0 1 after
ids_from-read from low weight [] number after e = grind arith
ids_from-read from low weight (byte ∷ bytes) number after e =
    grind (arith, nat_tests, ids_from-read from (low + weight * (byte - 128)) (weight * 128) bytes number after)

-- decoding the encoding of ids gives the ids
pub ids_from-deltas : (from : ℕ) (ids : List ℕ) → from ≤ MAX_ID → All (λ i. i ≤ MAX_ID) ids
    → ids_from from 0 1 (deltas from ids) ≡ ids
ids_from-deltas from [] small all = refl
ids_from-deltas from (id ∷ ids) small all =
    let here : id ≤ MAX_ID = All-head (λ i. i ≤ MAX_ID) id ids all in
    ids_from-read from 0 1 (deltas from (id ∷ ids)) _ _ (read-deltas from id ids small here)
    ∙ rw (unzigzag-zigzag from id, ids_from-deltas id ids here (All-tail (λ i. i ≤ MAX_ID) id ids all))

-- the bytes after the first varint, by their number
pub read_rest : (low weight : ℕ) (bytes : List ℕ) → (read low weight bytes ≡ read low weight bytes)
    × IfSome (read low weight bytes) (λ r. (length r.1 < length bytes)
    × (drop (length bytes - length r.1) bytes ≡ r.1))
read_rest low weight [] = (refl, tt)
read_rest low weight (byte ∷ bytes) =
    let one_more : (after : List ℕ) → length after ≤ length bytes
    → drop (suc (length bytes) - length after) (byte ∷ bytes) ≡ drop (length bytes - length after) bytes =
    λ after h. let k : suc (length bytes) - length after ≡ suc (length bytes - length after) = omega arith in rw k in
    (refl, grind (arith, nat_tests, one_more, (read_rest (low + weight * (byte - 128)) (weight * 128) bytes).1))

-- the first of these ids has this number, and the bytes after it encode the others
pub record IsFirst (from : ℕ) (ids : List ℕ) (id number : ℕ) (after : List ℕ) : Type 0 where
  pub small : id ≤ MAX_ID
  pub back : number ≡ zigzag from id
  pub first : ids ≡ id ∷ ids_from id 0 1 after
  pub rest : IsDeltas id after

first_of : (from : ℕ) (ids : List ℕ) → from ≤ MAX_ID → All (λ i. i ≤ MAX_ID) ids
    → IfSome (read 0 1 (deltas from ids)) (λ r. IsFirst from ids (unzigzag from r.0) r.0 r.1)
    × IfNone (read 0 1 (deltas from ids)) (ids ≡ [])
first_of from [] small all = (tt, refl)
first_of from (id ∷ ids) small all =
    let here : id ≤ MAX_ID = All-head (λ i. i ≤ MAX_ID) id ids all in
    let others : All (λ i. i ≤ MAX_ID) ids = All-tail (λ i. i ≤ MAX_ID) id ids all in
    let back = ids_from-deltas id ids here others in
    rw (read-deltas from id ids small here, unzigzag-zigzag from id) (
      record {
        small = here;
        back = refl;
        first = rw back;
        rest = record { small = here; ids = rw back others; spelled = rw back };
      },
      tt,
    )

-- the ids of these bytes, by the first number if there is one
pub first_read : (from : ℕ) (bytes : List ℕ) → IsDeltas from bytes → (ids_from from 0 1 bytes ≡ ids_from from 0 1 bytes)
    × IfSome (read 0 1 bytes) (λ r. IsFirst from (ids_from from 0 1 bytes) (unzigzag from r.0) r.0 r.1)
    × IfNone (read 0 1 bytes) (ids_from from 0 1 bytes ≡ [])
first_read from bytes h =
    let first = rw h.spelled at (first_of from (ids_from from 0 1 bytes) h.small h.ids) in (refl, first.0, first.1)

pub deltas-append : (from : ℕ) (ids more : List ℕ)
    → deltas from (ids ++ more) ≡ deltas from ids ++ deltas (last_id from ids) more
deltas-append from [] more = refl
deltas-append from (id ∷ ids) more = simp (deltas-append id ids more, append_assoc)

-- a number that fits in some groups needs no more if one more is allowed
groups-one_more : (more n : ℕ) → n < room more → groups (suc more) n ≡ groups more n
groups-one_more zero n small = grind (arith, nat_tests)
groups-one_more (suc more) n small = grind (arith, nat_tests, groups-one_more more (n / 128))

-- a number of one group, and a number of more: its low group, and the groups of the rest
pub varint-one : (n : ℕ) → n < 128 → varint n ≡ n ∷ []
unfolding varint
varint-one n small = grind (arith, nat_tests)

pub varint-more : (n : ℕ) → 128 ≤ n → n < 4294967296 → varint n ≡ (128 + n % 128) ∷ varint (n / 128)
unfolding varint
varint-more n big small = grind (arith, nat_tests, groups-one_more 3 (n / 128))

pub ruleset varints = (varint-one, varint-more, append_assoc)
