-- Numbers of four bytes.
-- Main statements: words_room, words_most, words_whole, words-range, word_at.
-- Used by: `words`.
-- Idea: four bytes fewer are one number fewer.
use Rattle.determinize_core.proofs.Common.{[], ap, arith, length, List, refl, slice_index, suc, zero}
use Rattle.determinize_core.proofs.Common.{ℕ, ◌*◌, ◌+◌, ◌-◌, ◌<◌, ◌∙◌, ◌∷◌, ◌≡◌, ◌≤◌}
use Rattle.std.specs.Prelude.{drop, get_or, take, ◌/◌}
use Rattle.std.specs.List.{slice_range}
use Rattle.std.specs.Int.{from_le_bytes, w32}
use Rattle.std.proofs.lemmas.List.{get_or-drop, get_or-take, length-drop, length-take}
use Rattle.determinize_stored.specs.Private.Words.{words_in}

-- the bytes are four for each number, and up to three more
pub words_room : (bs : List ℕ) → 4 * length (words_in bs) ≤ length bs
words_room [] = omega arith
words_room (a ∷ []) = omega arith
words_room (a ∷ b ∷ []) = omega arith
words_room (a ∷ b ∷ c ∷ []) = omega arith
words_room (a ∷ b ∷ c ∷ d ∷ bs) = let h = words_room bs in omega (arith, h)

pub words_most : (bs : List ℕ) → length bs < 4 * length (words_in bs) + 4
words_most [] = omega arith
words_most (a ∷ []) = omega arith
words_most (a ∷ b ∷ []) = omega arith
words_most (a ∷ b ∷ c ∷ []) = omega arith
words_most (a ∷ b ∷ c ∷ d ∷ bs) = let h = words_most bs in omega (arith, h)

-- an index of a number is one of its first byte
pub word_room : (bs : List ℕ) (i : ℕ) → i < length (words_in bs) → 4 * i + 3 < length bs
word_room bs i h = let room = words_room bs in omega (arith, h, room)

pub words_whole : (bs : List ℕ) → length bs / 4 ≡ length (words_in bs)
words_whole bs = let h = words_room bs in let k = words_most bs in omega (arith, h, k)

four : (n : ℕ) → 4 * suc n ≡ suc (suc (suc (suc (4 * n))))
four n = omega arith

words-drop : (n : ℕ) (bs : List ℕ) → words_in (drop (4 * n) bs) ≡ drop n (words_in bs)
words-drop zero bs = refl
words-drop (suc n) [] = rw (four n) refl
words-drop (suc n) (a ∷ []) = rw (four n) refl
words-drop (suc n) (a ∷ b ∷ []) = rw (four n) refl
words-drop (suc n) (a ∷ b ∷ c ∷ []) = rw (four n) refl
words-drop (suc n) (a ∷ b ∷ c ∷ d ∷ bs) = rw (four n) (words-drop n bs)

words-take : (n : ℕ) (bs : List ℕ) → words_in (take (4 * n) bs) ≡ take n (words_in bs)
words-take zero bs = refl
words-take (suc n) [] = rw (four n) refl
words-take (suc n) (a ∷ []) = rw (four n) refl
words-take (suc n) (a ∷ b ∷ []) = rw (four n) refl
words-take (suc n) (a ∷ b ∷ c ∷ []) = rw (four n) refl
words-take (suc n) (a ∷ b ∷ c ∷ d ∷ bs) =
    rw (four n) (ap (λ ws. from_le_bytes w32 (a ∷ b ∷ c ∷ d ∷ []) ∷ ws) (words-take n bs))

pub words-range : (a b : ℕ) (bs : List ℕ) → words_in (slice_range bs (4 * a) (4 * b)) ≡ slice_range (words_in bs) a b
words-range a b bs =
    let k : 4 * b - 4 * a ≡ 4 * (b - a) = omega arith in
    rw (k, words-take (b - a) (drop (4 * a) bs), words-drop a bs) refl

first_word : (bs : List ℕ) → 4 ≤ length bs
    → from_le_bytes w32 (get_or bs 0 0 ∷ get_or bs 1 0 ∷ get_or bs 2 0 ∷ get_or bs 3 0 ∷ [])
    ≡ slice_index (words_in bs) 0
first_word [] h = absurd (let no : ⊥ = omega (arith, h) in no)
first_word (a ∷ []) h = absurd (let no : ⊥ = omega (arith, h) in no)
first_word (a ∷ b ∷ []) h = absurd (let no : ⊥ = omega (arith, h) in no)
first_word (a ∷ b ∷ c ∷ []) h = absurd (let no : ⊥ = omega (arith, h) in no)
first_word (a ∷ b ∷ c ∷ d ∷ bs) h = refl

-- a number is that of its four bytes
pub word_at : (bs : List ℕ) (i : ℕ) → i < length (words_in bs)
    → from_le_bytes w32 (get_or (slice_range bs (4 * i) (4 * i + 4)) 0 0
    ∷ get_or (slice_range bs (4 * i) (4 * i + 4)) 1 0 ∷ get_or (slice_range bs (4 * i) (4 * i + 4)) 2 0
    ∷ get_or (slice_range bs (4 * i) (4 * i + 4)) 3 0 ∷ []) ≡ slice_index (words_in bs) i
word_at bs i h =
    let room = word_room bs i h in
    let rest = length-drop (4 * i) bs in
    let count = length-take (4 * i + 4 - 4 * i) (drop (4 * i) bs) in
    let more : 4 ≤ length (slice_range bs (4 * i) (4 * i + 4)) = omega (arith, room, rest, count) in
    let one : i + 1 - i ≡ 1 = omega arith in
    let first : slice_index (slice_range (words_in bs) i (i + 1)) 0 ≡ slice_index (words_in bs) i =
    rw one (get_or-take 1 (drop i (words_in bs)) 0 0 (omega arith)) ∙ get_or-drop i (words_in bs) 0 0
    ∙ ap (λ n. slice_index (words_in bs) n) (let e : i + 0 ≡ i = omega arith in e) in
    first_word (slice_range bs (4 * i) (4 * i + 4)) more
    ∙ ap (λ n. slice_index (words_in (slice_range bs (4 * i) n)) 0) (let e : 4 * i + 4 ≡ 4 * (i + 1) = omega arith in e)
    ∙ ap (λ ws. slice_index ws 0) (words-range i (i + 1) bs) ∙ first
