-- What the operations on vectors of 16 and of 64 bytes compute, of which each 16 lanes are a block.
-- Main statements: SwzOk-map, low_halves, high_halves, bits_of_lanes, unmarked_from_or, compared.
-- Used by: `bits_of_few`, `bits_of_many`, `has_no_bit`, and `of_few` and `of_many` of `One`.
-- Idea: each operation is a map over the lanes, and a map after a map is one map.
use Rattle.std.proofs.Common.{Bool, eqb, ltb, ◌≡◌, ℕ, false, cond, ◌+◌, ◌*◌, ◌/◌, ◌%◌, ◌^◌, ◌<◌, List, [], ◌∷◌, length, get_or, map, replicate, refl, sym, ap, ◌∙◌, arith, w8, bit_and, bit_or, Fits}
use Rattle.std.specs.Simd.Lanes.{sel_l, top, zip2, mask_l, fold_l, Each1}
use Rattle.std.proofs.lemmas.Simd.{splat_is_map, tops_compared, zip2_splat, zip2_of_maps, swz_l, SwzOk, SwzOk-from_below, length-swz_l, get_or-swz_l_below, Each1-get_or, Each1-from_get_or}
use Rattle.std.proofs.lemmas.List.{get_or-map, length-map}
use Rattle.std.proofs.lemmas.Grind.{same_number_lists}
use Rattle.std.proofs.lemmas.Nat.{and_mask, le_or_l, le_or_r}
use Rattle.std.proofs.lemmas.List.FromFn.{get_or-map-range_with_len}
use Rattle.byte_set.specs.Tables.{bits_of, entry_of, is_some_bit, same_bits}

-- each block of n lanes is a table
abbrev pub IsRepeated : ℕ → List ℕ → List ℕ → Type 0
IsRepeated n wide table = (k : ℕ) → k < n → get_or wide k 0 ≡ get_or table (k % 16) 0

-- the bit of each high half
abbrev pub bit_table : List ℕ
bit_table = 1 ∷ 2 ∷ 4 ∷ 8 ∷ 16 ∷ 32 ∷ 64 ∷ 128 ∷ 1 ∷ 2 ∷ 4 ∷ 8 ∷ 16 ∷ 32 ∷ 64 ∷ 128 ∷ []

bit_table-bit : (h : ℕ) → h < 16 → get_or bit_table h 0 ≡ 2 ^ (h % 8)
bit_table-bit h l = get_or-map-range_with_len (λ x. 2 ^ (x % 8)) 0 16 h h 0 l (omega arith)

-- of two lanes the one that a test selects
selects : (t : ℕ → Bool) (f g : ℕ → ℕ) (v : List ℕ)
    → sel_l (map t v) (map f v) (map g v) ≡ map (λ b. cond (t b) (f b) (g b)) v
selects t f g [] = refl
selects t f g (b ∷ v) = ap (λ rest. cond (t b) (f b) (g b) ∷ rest) (selects t f g v)

selected : (t : ℕ → Bool) (f g : ℕ → ℕ) (v : List ℕ) {ms : List Bool} {xs ys : List ℕ} → ms ≡ map t v → xs ≡ map f v
    → ys ≡ map g v
    → sel_l ms xs ys ≡ map (λ b. cond (t b) (f b) (g b)) v
selected t f g v p q r = rw (p, q, r) (selects t f g v)

module _ (blocks n : ℕ) (whole : n ≡ blocks * 16) (v : List ℕ) (long : length v ≡ n) where
  -- a position below 16 for each lane
  module _ (f : ℕ → ℕ) (small : (k : ℕ) → k < n → f (get_or v k 0) < 16) where
    pub SwzOk-map : SwzOk w8 16 n 0 (map f v)
    SwzOk-map =
        let same = length-map v f in
        SwzOk-from_below w8 16 blocks n 0 (map f v) whole (omega arith)
        (Each1-from_get_or (λ j. j < 16) (map f v) 0
        (λ k l. omega (arith, get_or-map f v k 0 0 (omega arith), small k (omega arith))))

    -- what a table gives at these positions
    pub swz_l-map : (wide table : List ℕ) → IsRepeated n wide table → (g : ℕ → ℕ)
        → ((k : ℕ) → k < n → get_or table (f (get_or v k 0)) 0 ≡ g (get_or v k 0))
        → swz_l w8 16 wide 0 (map f v) ≡ map g v
    swz_l-map wide table repeated g gives =
        let same = length-map v f in
        let given = length-swz_l w8 16 wide 0 (map f v) in
        same_number_lists _ _ (given ∙ same ∙ sym (length-map v g)) (λ k l.
        let within : k < length v = omega arith in
        let at : get_or (map f v) k 0 ≡ f (get_or v k 0) = get_or-map f v k 0 0 within in
        let below = small k (omega arith) in
        get_or-swz_l_below w8 16 wide 0 (map f v) k (omega arith) (omega arith)
        ∙ repeated (16 * ((0 + k) / 16) + get_or (map f v) k 0) (omega arith)
        ∙ ap (λ j. get_or table j 0) (omega arith)
        ∙ gives k (omega arith)
        ∙ sym (get_or-map g v k 0 0 within))

  pub low_halves : zip2 bit_and v (replicate n 15) ≡ map (λ b. b % 16) v
  low_halves = zip2_splat bit_and v n 15 long ∙ (λ i. map (λ b. and_mask b 4 i) v)

  pub high_halves : zip2 (λ a b. a / 2 ^ b) v (replicate n 4) ≡ map (λ b. b / 16) v
  high_halves = zip2_splat (λ a b. a / 2 ^ b) v n 4 long

  pub low_below : (k : ℕ) → k < n → get_or v k 0 % 16 < 16
  low_below k l = omega arith

  pub high_below : Each1 (Fits w8) v → (k : ℕ) → k < n → get_or v k 0 / 16 < 16
  high_below fits k l = omega (arith, (Each1-get_or (Fits w8) v k 0 (omega arith) fits).fits)

  -- the bits of each lane
  module _ (fits : Each1 (Fits w8) v) (low high : List ℕ) where
    pub bits_of_lanes : (wide_low wide_high wide_bits : List ℕ) → IsRepeated n wide_low low
        → IsRepeated n wide_high high
        → IsRepeated n wide_bits bit_table
        → zip2 bit_and (sel_l (map (top 7) (zip2 (λ a b. cond (ltb a b) 255 0) v (replicate n 128)))
        (swz_l w8 16 wide_low 0 (zip2 bit_and v (replicate n 15)))
        (swz_l w8 16 wide_high 0 (zip2 bit_and v (replicate n 15))))
        (swz_l w8 16 wide_bits 0 (zip2 (λ a b. a / 2 ^ b) v (replicate n 4)))
        ≡ map (bits_of low high) v
    bits_of_lanes wide_low wide_high wide_bits p q r =
        let by_low = ap (swz_l w8 16 wide_low 0) low_halves
        ∙ swz_l-map (λ b. b % 16) low_below wide_low low p (λ b. get_or low (b % 16) 0) (λ k l. refl) in
        let by_high = ap (swz_l w8 16 wide_high 0) low_halves
        ∙ swz_l-map (λ b. b % 16) low_below wide_high high q (λ b. get_or high (b % 16) 0) (λ k l. refl) in
        let by_bits = ap (swz_l w8 16 wide_bits 0) high_halves
        ∙ swz_l-map (λ b. b / 16) (high_below fits) wide_bits bit_table r (λ b. 2 ^ (b / 16 % 8))
        (λ k l. bit_table-bit (get_or v k 0 / 16) (high_below fits k l)) in
        zip2_of_maps bit_and (entry_of low high) (λ b. 2 ^ (b / 16 % 8)) v
        (selected (λ b. ltb b 128) _ _ v (tops_compared w8 ltb v (replicate n 128) ∙ zip2_splat ltb v n 128 long)
        by_low by_high)
        by_bits

-- lanes that make no bit together have none
pub unmarked_from_or : (a : ℕ) (xs : List ℕ) → fold_l bit_or a xs ≡ 0 → (a ≡ 0) × (mask_l (map is_some_bit xs) ≡ 0)
unmarked_from_or a [] e = (e, refl)
unmarked_from_or a (x ∷ xs) e =
    let rest = unmarked_from_or (bit_or a x) xs e in
    let none : x ≡ 0 = omega (arith, le_or_r a x) in
    let clear : is_some_bit x ≡ false = ap is_some_bit none in (
      omega (arith, le_or_l a x),
      omega (arith, ap (λ b. cond {A = ℕ} b 1 0) clear),
    )

-- the comparison of each of n lanes with a byte
pub compared : (n : ℕ) (v : List ℕ) (x : ℕ) → length v ≡ n
    → sel_l (map (top 7) (zip2 (λ a b. cond (eqb a b) 255 0) v (replicate n x))) (replicate n 255)
    (replicate n 0) ≡ map (same_bits x) v
compared n v x long =
    selected (λ b. eqb b x) (λ _. 255) (λ _. 0) v (tops_compared w8 eqb v (replicate n x) ∙ zip2_splat eqb v n x long)
    (splat_is_map v n 255 long) (splat_is_map v n 0 long)
