-- Reading the bytes of a finished state.
-- Main statements: laid_out_in, rest_valid, number_of.
-- Used by: the calls that read a state, UnfinishedBytes, AddedPatterns.
-- Idea: the bytes are those of a value, so each place has that part of the value.
use Rattle.determinize_state.proofs.Common.{◌≡◌, ℕ, ◌*◌, ◌<◌, ◌≤◌, List, [], length, All, suc, zero, refl, arith, sym, take, drop, lit≤, subst, slice_index, All-head, All-tail, ◌∷◌, from_le_bytes, w32, IsDeltas, words, number_at, numbers_in, has_flag, start_in, IsSpelled, ids_from, patterns_in, MAX_ID, FROM_WORD, HALF_CRLF, LOOK_HAVE, LOOK_NEED}
use Rattle.determinize_state.specs.Spelling.{value_of}
pub use Rattle.determinize_state.proofs.encoding.RoundTrip.{AreListed, IsLaidOut, few, laid_out, length-words, numbers_in-words}
use Rattle.std.proofs.lemmas.Nat.{from_le_bytes-to_le_bytes_4}

pub laid_out_in : (bytes : List ℕ) → IsSpelled bytes → IsLaidOut (value_of bytes) bytes
laid_out_in bytes h = subst (IsLaidOut (value_of bytes)) h.spelled (laid_out (value_of bytes) h.valid)

pub start_of : (bytes : List ℕ) → IsSpelled bytes → start_in bytes ≤ length bytes
start_of bytes h = grind (arith, laid_out_in bytes h)

pub rest_valid : (bytes : List ℕ) → IsSpelled bytes → IsDeltas 0 (drop (start_in bytes) bytes)
unfolding value_of
rest_valid bytes h = record { small = lit≤ tt; ids = h.valid.state_ids; spelled = sym (laid_out_in bytes h).rest }

-- the parts of the value, where the bytes have them
pub parts_of : (bytes : List ℕ) → ((value_of bytes).from_word ≡ has_flag bytes FROM_WORD)
    × ((value_of bytes).half_crlf ≡ has_flag bytes HALF_CRLF)
    × ((value_of bytes).look_have ≡ number_at bytes LOOK_HAVE)
    × ((value_of bytes).look_need ≡ number_at bytes LOOK_NEED) × ((value_of bytes).patterns ≡ patterns_in bytes)
    × ((value_of bytes).states ≡ ids_from 0 0 1 (drop (start_in bytes) bytes))
unfolding value_of
parts_of bytes = (refl, refl, refl, refl, refl, refl)

pub ruleset reading = (parts_of, laid_out_in, start_of, rest_valid)

-- the number at an index of four bytes each
pub number_of : (ids : List ℕ) (index : ℕ) → index < length ids → All (λ id. id ≤ MAX_ID) ids
    → number_at (words ids) (4 * index) ≡ slice_index ids index
number_of (id ∷ ids) zero h all =
    from_le_bytes-to_le_bytes_4 id (omega (arith, All-head (λ i. i ≤ MAX_ID) id ids all))
number_of (id ∷ ids) (suc index) h all =
    let e : 4 * suc index ≡ suc (suc (suc (suc (4 * index)))) = omega arith in
    rw e (number_of ids index (omega (arith, h)) (All-tail (λ i. i ≤ MAX_ID) id ids all))
number_of [] index h all = absurd (omega (arith, h))

pub ruleset patterns = (laid_out_in, length-words, numbers_in-words, number_of)

-- the first of the numbers, and the others
pub first_number : (bytes : List ℕ) → 4 ≤ length bytes
    → numbers_in bytes ≡ from_le_bytes w32 (take 4 bytes) ∷ numbers_in (drop 4 bytes)
first_number (a ∷ b ∷ c ∷ d ∷ bytes) h = refl
first_number bytes h = absurd (omega (arith, h))

pub others_small : (bytes : List ℕ) → 4 ≤ length bytes → All (λ id. id ≤ MAX_ID) (numbers_in bytes)
    → All (λ id. id ≤ MAX_ID) (numbers_in (drop 4 bytes))
others_small bytes h all = All-tail (λ id. id ≤ MAX_ID) _ _ (rw (first_number bytes h) at all)
