-- Escapes by number.
-- Main statements: two_read, braced_read, wide_read, two_next, braces_next, numbered_byte, numbered_wide.
-- Used by: the proofs of `hex` and `braces`.
-- Idea: a brace decides whether two digits follow, and the number is small enough that its digits are counted.
use Rattle.determinize_syntax.proofs.Common.{◌*◌, ◌+◌, ◌<◌, ◌∷◌, ◌≡◌, ◌≤◌, AtNumber, Bytes, Escape, Escaped, IsDigit}
use Rattle.determinize_syntax.proofs.Common.{IsDigits, IsScalar, IsWide, Part, Some, Wide, [], and_parts, arith, closed}
use Rattle.determinize_syntax.proofs.Common.{digit_value, inl, inr, is_digit, nat_tests, number, onward, refl}
use Rattle.determinize_syntax.proofs.Common.{slice_get, true, ℕ}
use Rattle.std.specs.Char.{InScalarRange}
use Rattle.determinize_syntax.proofs.Numbers.{number_begins, number_more, number_one}
use Rattle.determinize_syntax.specs.Private.Letters as to
use Rattle.determinize_syntax.specs.Spells as s
use Rattle.determinize_syntax.specs.declared.escape.Escape.TheVariants as escape

-- two hexadecimal digits
pub two_read : {a b d : Bytes} (n m : ℕ) → Part a b (IsDigit 16 n) → Part b d (IsDigit 16 m)
    → Part a d (λ t. Escaped (n * 16 + m) (0x5C ∷ 0x78 ∷ t))
two_read n m h k =
    onward (IsDigit 16 n) (IsDigit 16 m) (λ t. Escaped (n * 16 + m) (0x5C ∷ 0x78 ∷ t)) h k
    (λ t u y z. rw (y.1, z.1) (s.two_digits y.0 z.0 (n * 16 + m)
    (rw (y.3, z.3) (number_more 16 (y.0 ∷ []) (digit_value y.0) z.0 (number_one 16 y.0 y.2) z.2))))

-- a number in braces
pub braced_read : {a d x : Bytes} (n : ℕ) → Part a d (IsDigits n) → d ≡ 0x7D ∷ x → n < 128
    → Part a x (λ t. Escaped n (0x5C ∷ 0x78 ∷ 0x7B ∷ t))
braced_read n h r small =
    closed (IsDigits n) (λ t. Escaped n (0x5C ∷ 0x78 ∷ 0x7B ∷ t)) h r (λ t z. s.braces t n (z (omega arith)) small)

scalar_small : (n : ℕ) → InScalarRange n → n ≤ 0x10_FFFF
scalar_small n (inl h) = omega arith
scalar_small n (inr h) = h.1

pub wide_read : {a d x : Bytes} (n : ℕ) → Part a d (IsDigits n) → d ≡ 0x7D ∷ x → 128 ≤ n → IsScalar n → InScalarRange n
    → Part a x (λ t. Wide n (0x5C ∷ 0x78 ∷ 0x7B ∷ t))
wide_read n h r large is range = closed (IsDigits n) (λ t. Wide n (0x5C ∷ 0x78 ∷ 0x7B ∷ t)) h r
    (λ t z. s.by_number n t (z (scalar_small n range)) (large, is))

-- two digits after `\x`, which are no brace
pub two_next : (u : Bytes) (e : Escape) (r : Bytes) → AtNumber u e r → (slice_get r 0 ≡ Some 0x7B → ⊥)
    → (c d : ℕ) × (r ≡ c ∷ d ∷ u) × (is_digit c 16 ≡ true) × (is_digit d 16 ≡ true)
    × (e ≡ escape.Byte (digit_value c * 16 + digit_value d))
two_next u e r (to.two_digits c d b is) other =
    let x = number_begins 16 b (c ∷ d ∷ []) is in
    let text = x.2 in let first : x.0 ≡ c = (cc) in let rest : x.1 ≡ d ∷ [] = (cc) in (
      c,
      d,
      refl,
      (rw first at x.3),
      (and_parts (is_digit d 16) true (rw rest at x.4)).0,
      (let value = rw (first, rest) at x.5 in rw value refl),
    )
two_next u e r (to.small _ _ _ _) other = absurd (other refl)
two_next u e r (to.large _ _ _ _) other = absurd (other refl)

-- the escape is that of the number
abbrev pub IsNumbered : ℕ → Escape → Type 0
IsNumbered n (escape.Byte b) = (b ≡ n) × (n < 128)
IsNumbered n (escape.Wide c) = (c ≡ n) × IsWide n
IsNumbered n _ = ⊥

pub scalar_below : (c : ℕ) → IsScalar c → c ≤ 0x10_FFFF
scalar_below c is = grind (arith, nat_tests)

-- a number in braces
pub braces_next : (u : Bytes) (e : Escape) (r : Bytes) → AtNumber u e (0x7B ∷ r)
    → (n : ℕ) × Part r (0x7D ∷ u) (λ t. number 16 t ≡ Some n) × (n ≤ 0x10_FFFF) × IsNumbered n e
braces_next u e r (to.two_digits _ d b is) = absurd (cc)
braces_next u e r (to.small n _ part less) = (n, part, omega arith, (refl, less))
braces_next u e r (to.large n _ part wide) = (n, part, scalar_below n wide.1, (refl, wide))

pub numbered_byte : (n m : ℕ) (e : Escape) → IsNumbered n e → m ≡ n → m < 128 → escape.Byte m ≡ e
numbered_byte n m (escape.Byte b) is same small = rw (same, is.0) refl
numbered_byte n m (escape.Wide c) is same small =
    let large : 128 ≤ n = is.1.0 in absurd (omega (arith, same, small, large))
numbered_byte n m (escape.Class k g) is same small = absurd is
numbered_byte n m (escape.Look l) is same small = absurd is

pub numbered_wide : (n m : ℕ) (e : Escape) → IsNumbered n e → m ≡ n → 128 ≤ m → (escape.Wide m ≡ e) × IsScalar m
numbered_wide n m (escape.Byte b) is same large = let small = is.1 in absurd (omega (arith, same, small, large))
numbered_wide n m (escape.Wide c) is same large = (rw (same, is.0) refl, rw same is.1.1)
numbered_wide n m (escape.Class k g) is same large = absurd is
numbered_wide n m (escape.Look l) is same large = absurd is
