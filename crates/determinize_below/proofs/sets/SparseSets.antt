-- Sparse sets as a list of ids and its bits.
-- Main statements: distinct_push, room_for_one, cleared_all, sparse_none, sparse_again, sparse_push, sparse_clear.
-- Used by: the calls of `SparseSet`.
-- Idea: a bit is set exactly if its id is in the list.
use Rattle.determinize_below.proofs.Common.{nat_tests, [], ap, refl, ◌≤◌, arith, false, get_or, has_bit, IsCleared, length, List, list_any-append, nat_eq, replicate, set, sym, take, true, ℕ, ◌*◌, ◌++◌, ◌+◌, ◌/◌, ◌<◌, ◌||◌, ◌∙◌, ◌∷◌, ◌≡◌, eqb-true, length-append, list_any_more, has_id, IsSparse}
use Rattle.std.proofs.lemmas.List.Elements.{All-push}
use Rattle.std.specs.Cmp.{nat_eq_equiv}
use Rattle.std.specs.Int.{div_ceil}
use Rattle.std.specs.List.{IsDistinct}
pub use Rattle.std.proofs.lemmas.List.{length-replicate}
use Rattle.std.proofs.lemmas.Map.Keys.{IsDistinct-push}
use Rattle.std.proofs.lemmas.Map.Steps.{length-le_from_distinct_below}
use Rattle.std.proofs.lemmas.Map.Views.{Contains-from_any}
use Rattle.determinize_below.specs.declared.primitives.TheConstants.{ID_LIMIT}
use Rattle.determinize_below.proofs.sets.Bits.{has_bit-empty}
pub use Rattle.determinize_below.proofs.sets.Bits.{has_bit-zeros, words_back}

-- an empty list
pub distinct_none : (ids : List ℕ) → ids ≡ [] → IsDistinct nat_eq ids
unfolding IsDistinct
distinct_none ids e = rw e tt

-- adding a new id
pub distinct_push : (ids : List ℕ) (id : ℕ) → IsDistinct nat_eq ids → has_id ids id ≡ false
    → IsDistinct nat_eq (ids ++ id ∷ [])
distinct_push ids id d none = IsDistinct-push nat_eq_equiv ids id d none

pub holds-push : (ids : List ℕ) (id other : ℕ) → has_id (ids ++ id ∷ []) other ≡ (nat_eq other id || has_id ids other)
holds-push ids id other = grind (arith, list_any-append (nat_eq other) ids (id ∷ []))

-- there is room for an id whose bit is not set
pub room_for_one : (ids words : List ℕ) (id capacity room : ℕ) → IsSparse ids words capacity room → id < capacity
    → has_bit words id ≡ false → length ids < room
room_for_one ids words id capacity room sparse small unset =
    let new : has_id ids id ≡ false = sym (sparse.marked id small) ∙ unset in
    let below = All-push (λ i. i < capacity) ids id sparse.below small in
    let most = length-le_from_distinct_below (ids ++ id ∷ []) capacity (distinct_push ids id sparse.distinct new)
    (λ q h. let at = Contains-from_any {eq = nat_eq} eqb-true q (ids ++ id ∷ []) h in rw at.2 at (below at.0 q at.1)) in
    omega (arith, sparse.room_for_all, length-append ids (id ∷ []), most)

-- no bit is left
pub cleared_all : (words ids : List ℕ) (n : ℕ) → IsCleared words (replicate n 0) ids
cleared_all words ids n = grind (arith, has_bit-zeros)

-- clearing the word of one more id
pub cleared_more : (words fewer ids : List ℕ) (i : ℕ) → i < length ids → get_or ids i 0 < 64 * length fewer
    → IsCleared words fewer (take i ids) → IsCleared words (set fewer (get_or ids i 0 / 64) 0) (take (i + 1) ids)
cleared_more words fewer ids i h within so_far =
    let more = λ (id : ℕ). list_any_more (nat_eq id) ids i 0 h in
    grind (arith, has_bit-empty fewer (get_or ids i 0), more)

-- a set with no ids
pub sparse_none : (ids words : List ℕ) (capacity room n : ℕ) → ids ≡ [] → words ≡ replicate n 0
    → n ≡ div_ceil capacity 64 → capacity ≤ ID_LIMIT → capacity ≤ room → IsSparse ids words capacity room
sparse_none ids words capacity room n none zeros size small fits = rw (none, zeros) record {
  distinct = distinct_none [] refl;
  below = λ k d h. absurd (omega (arith, h));
  small = small;
  room_for_all = fits;
  word_for_each = length-replicate n 0 ∙ size;
  marked = λ id h. has_bit-zeros n id;
}

-- the words of a set that were lent and written to
module _ {ids words : List ℕ} {capacity room : ℕ} (sparse : IsSparse ids words capacity room)
    (lent new rest : List ℕ) (n : ℕ) (value : lent ≡ words) (size : n ≡ length new)
    (same : length new ≡ length lent) where
  count : length new ≡ div_ceil capacity 64
  count = same ∙ ap length value ∙ sparse.word_for_each

  pub sparse_clear : (cleared emptied : List ℕ) (more : ℕ) → cleared ≡ ids → emptied ≡ [] → room ≤ more
      → IsCleared lent new cleared → IsSparse emptied (take n (new ++ rest)) capacity more
  sparse_clear cleared emptied more is none fits bits = rw (words_back new rest n size, none) record {
    distinct = distinct_none [] refl;
    below = λ k d h. absurd (omega (arith, h));
    small = sparse.small;
    room_for_all = omega (arith, sparse.room_for_all);
    word_for_each = count;
    marked = λ i h. grind (arith, bits.was i, bits.none i, value, is, sparse.marked i h);
  }

  module _ (id : ℕ) (after : (other : ℕ) → has_bit new other ≡ (nat_eq other id || has_bit lent other)) where
    pub sparse_again : has_bit lent id ≡ true → IsSparse ids (take n (new ++ rest)) capacity room
    sparse_again held = rw (words_back new rest n size) record {
      distinct = sparse.distinct;
      below = sparse.below;
      small = sparse.small;
      room_for_all = sparse.room_for_all;
      word_for_each = count;
      marked = λ i h. grind (arith, nat_tests, after i, held, value, sparse.marked i h);
    }

    pub sparse_push : has_bit lent id ≡ false → id < capacity → (longer : List ℕ) (more : ℕ) → longer ≡ ids ++ id ∷ []
        → room ≤ more → IsSparse longer (take n (new ++ rest)) capacity more
    sparse_push unset small longer more pushed fits =
        let none : has_id ids id ≡ false = sym (sparse.marked id small) ∙ rw value at unset in
        rw (words_back new rest n size, pushed) record {
          distinct = distinct_push ids id sparse.distinct none;
          below = All-push (λ i. i < capacity) ids id sparse.below small;
          small = sparse.small;
          room_for_all = omega (arith, sparse.room_for_all);
          word_for_each = count;
          marked = λ i h. rw (after i, value, sparse.marked i h, holds-push ids id i);
        }
