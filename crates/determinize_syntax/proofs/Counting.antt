-- Counts that may follow after their brace.
-- Main statements: first_count, exactly_passed, at_least_passed, counted, counted_twice.
-- Used by: the proofs that `counts` rejects no operator.
-- Idea: what follows after the first count says which operator it is.
use Rattle.determinize_syntax.proofs.Common.{◌++◌, ◌∙◌, ◌∷◌, ◌≡◌, ◌≤◌, Bytes, CountsTo, IsCount, NoDigit, Operator}
use Rattle.determinize_syntax.proofs.Common.{Option, Part, Some, append_assoc, arith, codes, false, is_digit, refl}
use Rattle.determinize_syntax.proofs.Common.{slice_get, some_injective, ℕ}
use Rattle.determinize_syntax.proofs.Numbers.{some_digit}
use Rattle.determinize_syntax.specs.Spells as s

pub past_sign : (c : ℕ) (u : Bytes) → is_digit c 10 ≡ false → NoDigit 10 (c ∷ u)
past_sign c u other d e = rw (some_injective c d e) at other

-- what follows after the first count n, before u
pub data AfterFirst (n : ℕ) (u : Bytes) : Bytes → Type 0 where
  exactly : AfterFirst n u (0x7D ∷ u)
  at_least : AfterFirst n u (0x2C ∷ 0x7D ∷ u)
  between : (m : ℕ) (y : Bytes) → Part y (0x7D ∷ u) (IsCount m) → n ≤ m → AfterFirst n u (0x2C ∷ y)

abbrev pub First : Bytes → Bytes → Type 0
First u a = (n : ℕ) × (x : Bytes) × Part a x (IsCount n) × NoDigit 10 x × AfterFirst n u x

pub first_count : (a u : Bytes) → CountsTo u a → First u a
first_count a u (min, max, (t, r, is)) = split min max t is r where
  split : (min : ℕ) (max : Option ℕ) (t : Bytes) → Operator min max (0x7B ∷ t) → a ≡ t ++ u → First u a
  split _ _ _ (s.exactly n v is small) r =
      (n, 0x7D ∷ u, (v, r ∙ append_assoc v (codes "}") u, (is, small)), past_sign 0x7D u refl, exactly)
  split _ _ _ (s.at_least n v is small) r = (
    n,
    0x2C ∷ 0x7D ∷ u,
    (v, r ∙ append_assoc v (codes ",}") u, (is, small)),
    past_sign 0x2C (0x7D ∷ u) refl,
    at_least,
  )
  split _ _ _ (s.between n m v y is_n is_m le small) r = (
    n,
    0x2C ∷ (y ++ 0x7D ∷ u),
    (
      v,
      r ∙ append_assoc (v ++ codes "," ++ y) (codes "}") u ∙ append_assoc (v ++ codes ",") y (0x7D ∷ u)
          ∙ append_assoc v (codes ",") (y ++ 0x7D ∷ u),
      (is_n, omega arith),
    ),
    past_sign 0x2C (y ++ 0x7D ∷ u) refl,
    between m (y ++ 0x7D ∷ u) (y, refl, (is_m, small)) le,
  )

-- `}` after the first count
pub exactly_passed : (n : ℕ) (u r : Bytes) → AfterFirst n u (0x7D ∷ r) → r ≡ u
exactly_passed n u r exactly = refl

-- `}` or `,` follows after the first count
pub one_follows : {A : Type 0} (n : ℕ) (u x : Bytes) → AfterFirst n u x → (slice_get x 0 ≡ Some 0x7D → ⊥)
    → (slice_get x 0 ≡ Some 0x2C → ⊥) → A
one_follows n u _ exactly no_brace no_comma = absurd (no_brace refl)
one_follows n u _ at_least no_brace no_comma = absurd (no_comma refl)
one_follows n u _ (between m y part le) no_brace no_comma = absurd (no_comma refl)

-- `,}` after the first count
pub at_least_passed : (n : ℕ) (u r : Bytes) → AfterFirst n u (0x2C ∷ 0x7D ∷ r) → r ≡ u
at_least_passed n u r at_least = refl
at_least_passed n u r (between m _ (t, e, is) le) = some_digit 10 m (t, e, is.0) (past_sign 0x7D r refl)

-- a second count after the comma
second_count : (n : ℕ) (u y : Bytes) → AfterFirst n u (0x2C ∷ y) → (slice_get y 0 ≡ Some 0x7D → ⊥)
    → (m : ℕ) × Part y (0x7D ∷ u) (IsCount m) × (n ≤ m)
second_count n u _ at_least other = absurd (other refl)
second_count n u _ (between m y part le) other = (m, part, le)

-- what follows of the counts once the first one was read, by a call that reads a count
module _ (a b u : Bytes) (min : ℕ) (h : CountsTo u a)
    (whole : (n : ℕ) (w : Bytes) → Part a w (IsCount n) → NoDigit 10 w → (min ≡ n) × (b ≡ w)) where
  pub counted : AfterFirst min u b
  counted = let x = first_count a u h in let y = whole x.0 x.1 x.2 x.3 in rw (y.0, y.1) x.4

  pub counted_twice : (d e : Bytes) → b ≡ 0x2C ∷ d → (slice_get d 0 ≡ Some 0x7D → ⊥) → e ≡ d
      → (m : ℕ) × Part e (0x7D ∷ u) (IsCount m) × (min ≤ m)
  counted_twice d e comma other same = rw same (second_count min u d (rw comma at counted) other)
