-- The bits of ids in words of 64 bits: reading, setting and clearing one.
-- Main statements: has_bit-set, words_back, the ruleset one_bit.
-- Used by: SparseSets.
-- Idea: an id is a word and a bit of it, and two ids differ in one of these.
use Rattle.determinize_below.proofs.Common.{cond, get_or_past, ap, arith, bit_and, bit_at, bit_at-zero, bit_or, by_cases, false, get_or, length, List, nat_eq, nat_tests, refl, replicate, set, sym, take, true, ℕ, ◌*◌, ◌++◌, ◌/◌, ◌<◌, ◌^◌, ◌||◌, ◌≡◌, w64, ne_eqb, ◌%◌, take-append_seam, cases_eq, get_or-set_other, get_or-set_same, bit_at_set_other, bit_at_set_same, shr_and_one, eq-eqb}
use Rattle.std.proofs.lemmas.List.{get_or-replicate, length-replicate}
use Rattle.determinize_below.specs.Private.Sparse.{has_bit}

-- reading a bit
pub has_bit-read : (words : List ℕ) (id : ℕ)
    → has_bit words id ≡ nat_eq (bit_and (get_or words (id / 64) 0 / 2 ^ (id % 64)) 1) 1
unfolding has_bit
has_bit-read words id = ap (λ n. nat_eq n 1) (sym (shr_and_one (get_or words (id / 64) 0) (id % 64)))

-- writing to the word of an id: the bits of that word, and the others
has_bit-write : (words : List ℕ) (id other n : ℕ) → id < 64 * length words
    → has_bit (set words (id / 64) n) other
    ≡ cond (nat_eq (other / 64) (id / 64)) (nat_eq (bit_at n (other % 64)) 1) (has_bit words other)
unfolding has_bit
has_bit-write words id other n h =
    by_cases (cases_eq (other / 64) (id / 64))
    (λ e. rw (e, get_or-set_same {A = ℕ} words (id / 64) n 0 (omega arith), eq-eqb (id / 64) (id / 64) refl) refl)
    (λ ne. rw (get_or-set_other {A = ℕ} words (id / 64) (other / 64) n 0 ne, ne_eqb _ _ ne) refl)

-- setting a bit of the words
pub has_bit-set : (words : List ℕ) (id other : ℕ) → id < 64 * length words
    → has_bit (set words (id / 64) (bit_or (get_or words (id / 64) 0) (1 * 2 ^ (id % 64) % 2 ^ 64))) other ≡
    (nat_eq other id || has_bit words other)
unfolding has_bit
has_bit-set words id other h =
    let k : id % 64 < 64 = omega arith in
    grind (
      arith,
      nat_tests,
      has_bit-write words id other
          (bit_or (get_or words (id / 64) 0) (1 * 2 ^ (id % 64) % 2 ^ 64)) h,
      bit_at_set_same w64 (get_or words (id / 64) 0) (id % 64) k,
      bit_at_set_other w64 (get_or words (id / 64) 0) (id % 64) k (other % 64),
    )

-- clearing a word
pub has_bit-empty : (words : List ℕ) (id other : ℕ) → id < 64 * length words
    → has_bit (set words (id / 64) 0) other ≡ true → (has_bit words other ≡ true) × (nat_eq other id ≡ false)
has_bit-empty words id other h t =
    grind (arith, nat_tests, has_bit-write words id other 0 h, bit_at-zero (other % 64))

pub has_bit-zeros : (n id : ℕ) → has_bit (replicate n 0) id ≡ false
unfolding has_bit
has_bit-zeros n id =
    grind (arith, get_or_past {X = ℕ}, get_or-replicate {A = ℕ}, length-replicate {A = ℕ}, bit_at-zero (id % 64))

-- the words of a vector after a write to all of them
pub words_back : (words rest : List ℕ) (n : ℕ) → n ≡ length words → take n (words ++ rest) ≡ words
words_back words rest n e = rw e (take-append_seam words rest)

-- the rules for a read and a write of one bit
pub ruleset one_bit = (has_bit-read, has_bit-set)
