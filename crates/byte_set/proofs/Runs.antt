-- How many bytes come before the first that has a bit, from the mask of their lanes.
-- Main statements: IsRun-marks, IsRun-lanes, trailing_64, IsRun-moved, IsRun-front, IsRun-back.
-- Used by: `run_of_many`, `run_of_few`, `run_of_fewer` and `run_of_lanes`.
-- Idea: the lowest bit of the mask is that of the first lane with a bit, or there is none.
use Rattle.std.proofs.Common.{◌≡◌, ℕ, ◌+◌, ◌-◌, ◌<◌, ◌≤◌, List, Bool, eqb, cond, length, get_or, map, sym, ap, ◌∙◌, ⊎_elim, arith}
use Rattle.std.specs.Simd.Lanes.{chunk, mask_l}
use Rattle.std.proofs.lemmas.Simd.{first_set_mask_l, length-chunk, map-map, run_in_chunk_fails, run_in_chunk_le, run_in_chunk_stops}
use Rattle.std.proofs.lemmas.Bool.{cases_eq, cases_lt, ne_eqb}
use Rattle.std.proofs.lemmas.List.{take_all}
use Rattle.std.specs.Int.Count.{count_trailing_zeros, trailing_of_zero}
use Rattle.byte_set.specs.Sets.{IsRun}
use Rattle.byte_set.specs.Tables.{is_some_bit, passes}

module _ (bits : ℕ → ℕ) (text : List ℕ) (i n : ℕ) (room : i + n ≤ length text) (few : n ≤ 64) where
  -- the mask m of the bits of a load
  pub IsRun-marks : (m : ℕ) → m ≡ mask_l (map is_some_bit (map (bits) (chunk i n text)))
      → IsRun (passes bits) text i n (cond (eqb m 0) n (count_trailing_zeros 64 m))
  IsRun-marks m made =
      let test = passes bits in
      let marked : m ≡ mask_l (map test (chunk i n text)) = made
      ∙ ap mask_l (map-map is_some_bit (bits) (chunk i n text)) in
      let counted = ap (λ k. cond (eqb k 0) n (count_trailing_zeros 64 k)) marked
      ∙ first_set_mask_l test (chunk i n text) n (length-chunk i n text room) few in
      record {
        few = run_in_chunk_le test text i n _ 0 room counted;
        none = run_in_chunk_fails test text i n _ 0 room counted;
        found = run_in_chunk_stops test text i n _ 0 room counted;
      }

-- the same of 16 lanes
pub IsRun-lanes : (bits : ℕ → ℕ) (v given : List ℕ) (m : ℕ) → length v ≡ 16 → given ≡ map bits v
    → m ≡ mask_l (map is_some_bit given)
    → IsRun (passes bits) v 0 16 (cond (eqb m 0) 16 (count_trailing_zeros 64 m))
IsRun-lanes bits v given m long looked marked =
    IsRun-marks bits v 0 16 (omega arith) (omega arith) m
    (marked ∙ ap (λ u. mask_l (map is_some_bit u)) (looked ∙ ap (map bits) (sym (take_all 16 v (omega arith)))))

-- of 64 lanes the number of zeros below the lowest set bit, which is 64 if no bit is set
pub trailing_64 : (m : ℕ) → cond (eqb m 0) 64 (count_trailing_zeros 64 m) ≡ count_trailing_zeros 64 m
trailing_64 m =
    ⊎_elim (λ none. ap (λ k. cond (eqb k 0) 64 (count_trailing_zeros 64 k)) none
    ∙ sym (ap (count_trailing_zeros 64) none ∙ trailing_of_zero 64))
    (λ some. ap (λ b. cond b 64 (count_trailing_zeros 64 m)) (ne_eqb m 0 some)) (cases_eq m 0)

-- a run of lanes that hold the bytes of a text from i on
pub IsRun-moved : (test : ℕ → Bool) (v text : List ℕ) (i n r : ℕ)
    → ((k : ℕ) → k < n → get_or v k 0 ≡ get_or text (i + k) 0) → IsRun test v 0 n r → IsRun test text i n r
IsRun-moved test v text i n r same h =
    let few = h.few in
    record {
      few = few;
      none = λ k from below.
          let at : i + (k - i) ≡ k = omega arith in
          ap (λ x. test (get_or text x 0)) (sym at) ∙ ap test (sym (same (k - i) (omega arith)))
          ∙ h.none (k - i) (omega arith) (omega arith);
      found = λ l.
          let at : r ≡ 0 + r = omega arith in
          ap test (sym (same r l)) ∙ ap (λ x. test (get_or v x 0)) at ∙ h.found l;
    }

-- 16 lanes that hold the first and the last eight of eight to sixteen bytes
module _ (test : ℕ → Bool) (v text : List ℕ) (i j r : ℕ) (long : i + 8 ≤ j) (short : j ≤ i + 16)
    (front : (k : ℕ) → k < 8 → get_or v k 0 ≡ get_or text (i + k) 0)
    (back : (k : ℕ) → k < 8 → get_or v (8 + k) 0 ≡ get_or text (j - 8 + k) 0) (h : IsRun test v 0 16 r) where
  in_front : (k : ℕ) → i ≤ k → k < i + 8 → test (get_or text k 0) ≡ test (get_or v (k - i) 0)
  in_front k from below =
      let at : k ≡ i + (k - i) = omega arith in
      ap (λ x. test (get_or text x 0)) at ∙ ap test (sym (front (k - i) (omega arith)))

  in_back : (k : ℕ) → j ≤ k + 8 → k < j → test (get_or text k 0) ≡ test (get_or v (k + 16 - j) 0)
  in_back k from below =
      let at : k ≡ j - 8 + (k + 8 - j) = omega arith in
      let lane : 8 + (k + 8 - j) ≡ k + 16 - j = omega arith in
      ap (λ x. test (get_or text x 0)) at ∙ ap test (sym (back (k + 8 - j) (omega arith)))
      ∙ ap (λ x. test (get_or v x 0)) lane

  pub IsRun-front : r < 8 → IsRun test text i (j - i) r
  IsRun-front l = record {
    few = omega arith;
    none = λ k from below. in_front k from (omega arith) ∙ h.none (k - i) (omega arith) (omega arith);
    found = λ m.
        let lane : i + r - i ≡ 0 + r = omega arith in
        in_front (i + r) (omega arith) (omega arith) ∙ ap (λ x. test (get_or v x 0)) lane ∙ h.found (omega arith);
  }

  pub IsRun-back : 8 ≤ r → IsRun test text i (j - i) (j - i - (16 - r))
  IsRun-back ge =
      let few = h.few in
      record {
        few = omega arith;
        none = λ k from below.
            ⊎_elim (λ l. in_front k from l ∙ h.none (k - i) (omega arith) (omega arith))
            (λ l. in_back k (omega arith) (omega arith) ∙ h.none (k + 16 - j) (omega arith) (omega arith))
            (cases_lt k (i + 8));
        found = λ l.
            let at : i + (j - i - (16 - r)) + 16 - j ≡ 0 + r = omega arith in
            in_back (i + (j - i - (16 - r))) (omega arith) (omega arith) ∙ ap (λ x. test (get_or v x 0)) at
            ∙ h.found (omega arith);
      }
