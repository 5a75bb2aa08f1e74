-- Which bytes are members of a set, from its two tables.
-- Main statements: member-of, set-is, bit-at, bits-set, bits-left.
-- Used by: `new`, `contains`, `tables` and `entry`.
-- Idea: the byte `first + 16 * h + l`, of a table that begins at `first`, has bit `h` of entry `l`.
use Rattle.std.proofs.Common.{◌≡◌, ℕ, ◌+◌, ◌*◌, ◌/◌, ◌%◌, ◌<◌, ◌^◌, Bool, List, true, refl, bit_or, ◌≢◌, ◌≤◌, length, get_or, false, ap, sym, ◌∙◌, arith, ⊎_elim, bit_and}
use Rattle.std.proofs.lemmas.Bool.{cases_lt, cond_above, cond_below}
use Rattle.std.proofs.lemmas.List.{get_or_default, get_or-replicate, same_lists}
use Rattle.std.proofs.lemmas.Nat.{and_or_apart, and_or_self, pow_apart}
use Rattle.std.proofs.lemmas.List.FromFn.{get_or-map-range_with_len, length-map-range_with_len}
use Rattle.byte_set.specs.Sets.{is_member}
use Rattle.byte_set.specs.Tables.{IsEntry, bits_of, is_some_bit, passes, set_of}

-- a byte is a member if it has its bit
pub member-of : (low high : List ℕ) (b : ℕ) → b < 256 → is_member (set_of low high) b ≡ passes (bits_of low high) b
unfolding set_of
member-of low high b l = get_or-map-range_with_len (passes (bits_of low high)) 0 256 b b false l (omega arith)

-- the bit of a byte of one table
passes-entry : (members : List Bool) (first entry b : ℕ) → IsEntry members (first + b % 16) entry → first + b % 128 ≡ b
    → is_some_bit (bit_and entry (2 ^ (b / 16 % 8))) ≡ is_member members b
passes-entry members first entry b is at =
    let whole : first + b % 16 + 16 * (b / 16 % 8) ≡ b = omega arith in
    is (b / 16 % 8) (omega arith) ∙ ap (is_member members) whole

-- tables that have an entry for each low half are the set
pub set-is : (low high : List ℕ) (members : List Bool) → length members ≡ 256
    → ((l : ℕ) → l < 16 → IsEntry members (0 + l) (get_or low l 0))
    → ((l : ℕ) → l < 16 → IsEntry members (128 + l) (get_or high l 0)) → set_of low high ≡ members
unfolding set_of
set-is low high members count lows highs =
    let long = length-map-range_with_len (passes (bits_of low high)) 0 256 in
    same_lists _ _ (long ∙ sym count) (λ k d l.
    let below : k < 256 = omega arith in
    let bit = λ (entry : ℕ). is_some_bit (bit_and entry (2 ^ (k / 16 % 8))) in
    get_or-map-range_with_len (passes (bits_of low high)) 0 256 k k d below (omega arith)
    ∙ ⊎_elim (λ less. ap bit (sym (cond_below k 128 (get_or low (k % 16) 0) (get_or high (k % 16) 0) less))
    ∙ passes-entry members 0 (get_or low (k % 16) 0) k (lows (k % 16) (omega arith)) (omega arith))
    (λ more. ap bit (sym (cond_above k 128 (get_or low (k % 16) 0) (get_or high (k % 16) 0)
    (get_or high (k % 16) 0) more refl))
    ∙ passes-entry members 128 (get_or high (k % 16) 0) k (highs (k % 16) (omega arith)) (omega arith)) (cases_lt k 128)
    ∙ get_or_default members k false d (omega arith))

-- the bit at a place below eight, as a byte
pub bit-at : (h : ℕ) → h < 8 → 1 * 2 ^ h % 256 ≡ 2 ^ h
bit-at h l = sym (get_or-map-range_with_len (λ x. 1 * 2 ^ x % 256) 0 8 h h 0 l (omega arith))
    ∙ get_or-map-range_with_len (λ x. 2 ^ x) 0 8 h h 0 l (omega arith)

bit-some : (h : ℕ) → h < 8 → is_some_bit (2 ^ h) ≡ true
bit-some h l = sym (get_or-map-range_with_len (λ x. is_some_bit (2 ^ x)) 0 8 h h false l (omega arith))
    ∙ get_or-replicate 8 h true false l

-- the entry has the bits of the first n of eight bytes
abbrev pub HasBits : List Bool → ℕ → ℕ → ℕ → Type 0
HasBits members first n entry =
    (h : ℕ) → h < n → is_some_bit (bit_and entry (2 ^ h)) ≡ is_member members (first + 16 * h)

-- the entry has no bit from the n-th on
abbrev pub HasNoBitFrom : ℕ → ℕ → Type 0
HasNoBitFrom n entry = (h : ℕ) → n ≤ h → bit_and entry (2 ^ h) ≡ 0

module _ (members : List Bool) (first n entry next : ℕ) (few : n < 8) (has : HasBits members first n entry)
    (clear : HasNoBitFrom n entry) where
  -- a bit more
  pub bits-set : is_member members (first + 16 * n) ≡ true → next ≡ bit_or entry (1 * 2 ^ n % 256)
      → HasBits members first (n + 1) next × HasNoBitFrom (n + 1) next
  bits-set flag is =
      let made : next ≡ bit_or entry (2 ^ n) = is ∙ ap (bit_or entry) (bit-at n few) in
      let apart = λ (h : ℕ) (other : n ≢ h). ap (λ e. bit_and e (2 ^ h)) made
      ∙ and_or_apart (2 ^ h) entry (2 ^ n) (pow_apart n h other) in (
        λ h l. ⊎_elim (λ before. ap is_some_bit (apart h (omega arith)) ∙ has h before)
            (λ late.
            let here : h ≡ n = omega arith in
            rw here (ap (λ e. is_some_bit (bit_and e (2 ^ n))) made ∙ ap is_some_bit (and_or_self (2 ^ n) entry)
            ∙ bit-some n few ∙ sym flag)) (cases_lt h n),
        λ h l. apart h (omega arith) ∙ clear h (omega arith),
      )

  -- no bit
  pub bits-left : is_member members (first + 16 * n) ≡ false → next ≡ entry
      → HasBits members first (n + 1) next × HasNoBitFrom (n + 1) next
  bits-left flag is = (
    λ h l. ⊎_elim (λ before. rw is (has h before))
        (λ late.
        let here : h ≡ n = omega arith in
        rw (is, here) (ap is_some_bit (clear n (omega arith)) ∙ sym flag)) (cases_lt h n),
    λ h l. rw is (clear h (omega arith)),
  )
