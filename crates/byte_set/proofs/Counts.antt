-- How many bytes of a text have a bit.
-- Main statements: count_of_marks, count_on, count_next, count_few, count_same, passes-only.
-- Used by: `count`, `count_by_vectors`, `count_of_many` and `count_of_few`.
-- Idea: the mask of a load has a bit for each byte of it that has one, and the counts of two parts add up.
use Rattle.std.proofs.Common.{Bool, true, false, eqb, ◌≡◌, ℕ, suc, ◌+◌, ◌-◌, ◌<◌, ◌≤◌, List, [], ◌∷◌, cond, length, get_or, map, take, drop, refl, sym, ap, ◌∙◌, arith}
use Rattle.std.specs.Int.Count.{ones}
use Rattle.std.specs.List.{count_by, slice_range}
use Rattle.std.specs.Simd.Lanes.{chunk, mask_l}
use Rattle.std.proofs.lemmas.Grind.{same_number_lists}
use Rattle.std.proofs.lemmas.List.{drop-drop}
use Rattle.std.proofs.lemmas.List.Sums.{count_by-le-length, sum_by-append, sum_by-cons}
use Rattle.std.proofs.lemmas.Simd.{get_or-chunk, length-chunk, map-map, ones-mask_l}
use Rattle.std.proofs.Math.Seq.{take-add}
use Rattle.byte_set.specs.Tables.{is_some_bit, passes, same_bits}

-- the bits of the mask of a load
pub count_of_marks : (bits : ℕ → ℕ) (v given : List ℕ) (m : ℕ) → given ≡ map bits v
    → m ≡ mask_l (map is_some_bit given) → ones m ≡ count_by (passes bits) v
count_of_marks bits v given m looked marked =
    ap ones (marked ∙ ap (λ u. mask_l (map is_some_bit u)) looked ∙ ap mask_l (map-map is_some_bit bits v))
    ∙ ones-mask_l (passes bits) v

module _ (test : ℕ → Bool) (text : List ℕ) (i j : ℕ) (from : i ≤ j) where
  -- n bytes more
  pub count_on : (n : ℕ) → count_by test (slice_range text i (j + n))
      ≡ count_by test (slice_range text i j) + count_by test (chunk j n text)
  count_on n =
      let more : j + n - i ≡ j - i + n = omega arith in
      let next : i + (j - i) ≡ j = omega arith in
      ap (λ k. count_by test (take k (drop i text))) more
      ∙ ap (count_by test) (take-add (j - i) n (drop i text))
      ∙ sum_by-append _ (take (j - i) (drop i text)) (take n (drop (j - i) (drop i text)))
      ∙ ap (λ xs. count_by test (slice_range text i j) + count_by test (take n xs))
      (drop-drop (j - i) i text ∙ ap (λ k. drop k text) next)

  -- one byte more
  pub count_next : j < length text → count_by test (slice_range text i (j + 1))
      ≡ count_by test (slice_range text i j) + cond (test (get_or text j 0)) 1 0
  count_next within =
      count_on 1
      ∙ ap (λ xs. count_by test (slice_range text i j) + count_by test xs)
      (same_number_lists (chunk j 1 text) (get_or text j 0 ∷ []) (length-chunk j 1 text (omega arith)) (λ k l.
      let here : k ≡ 0 = omega (arith, length-chunk j 1 text (omega arith)) in
      let there : j + 0 ≡ j = omega arith in
      rw here (get_or-chunk j 1 text 0 0 (omega arith) ∙ ap (λ m. get_or text m 0) there)))
      ∙ ap (λ n. count_by test (slice_range text i j) + n)
      (sum_by-cons (λ b. cond (test b) 1 0) (get_or text j 0) [] ∙ omega arith)

  -- at most one for each byte
  pub count_few : j ≤ length text → count_by test (slice_range text i j) ≤ j - i
  count_few within =
      omega (arith, count_by-le-length test (slice_range text i j), length-chunk i (j - i) text (omega arith))

-- tests that agree on each byte count the same
count_alike : (p q : ℕ → Bool) (xs : List ℕ) → ((k : ℕ) → k < length xs → p (get_or xs k 0) ≡ q (get_or xs k 0))
    → count_by p xs ≡ count_by q xs
count_alike p q [] same = refl
count_alike p q (x ∷ xs) same =
    sum_by-cons _ x xs ∙ ap (λ t. cond {A = ℕ} t 1 0 + count_by p xs) (same 0 (omega arith))
    ∙ ap (λ n. cond {A = ℕ} (q x) 1 0 + n) (count_alike p q xs (λ k l. same (suc k) (omega arith)))
    ∙ sym (sum_by-cons _ x xs)

pub count_same : (p q : ℕ → Bool) (text : List ℕ) (i j : ℕ) → i ≤ j → j ≤ length text
    → ((k : ℕ) → p (get_or text k 0) ≡ q (get_or text k 0))
    → count_by p (slice_range text i j) ≡ count_by q (slice_range text i j)
count_same p q text i j from within same =
    let long = length-chunk i (j - i) text (omega arith) in
    count_alike p q (slice_range text i j) (λ k l.
    let at = get_or-chunk i (j - i) text k 0 (omega arith) in
    ap p at ∙ same (i + k) ∙ ap q (sym at))

is_some_bit-cond : (t : Bool) → is_some_bit (cond t 255 0) ≡ t
is_some_bit-cond true = refl
is_some_bit-cond false = refl

-- what the comparison with a byte passes
pub passes-only : (x b : ℕ) → passes (same_bits x) b ≡ eqb b x
passes-only x b = is_some_bit-cond (eqb b x)
