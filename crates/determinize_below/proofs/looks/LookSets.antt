-- Assertions and sets of them as numbers: members, equality, emptiness and classes.
-- Main statements: has-union, has-insert, same_sets, Decides-empty.
-- Used by: all that computes with sets of assertions.
-- Idea: a set is the bits of its members, and the bits of two assertions are distinct.
use Rattle.determinize_below.proofs.Common.{ap, arith, bit_and, bit_at, bit_at-zero, bit_of, bit_or, Bool, Decides, each_look, End, EndCRLF, EndLF, eqb-true, false, get_or, list_any, list_any_at, lit<, Look, nat_eq, nat_tests, not, refl, Start, StartCRLF, StartLF, sym, true, WordAscii, WordAsciiNegate, WordEndAscii, WordEndHalfAscii, WordEndHalfUnicode, WordEndUnicode, WordStartAscii, WordStartHalfAscii, WordStartHalfUnicode, WordStartUnicode, WordUnicode, WordUnicodeNegate, ℕ, ◌&&◌, ◌<◌, ◌^◌, ◌∙◌, ◌≡◌, w32, pow_pos, bit_at_or, bit_at_and, bit_at_not, bit_at-lt, and_pow, bit_at-pow_same, bit_at-pow_other, same_from_bits_below, false_from_ne_true, agree_below_at, subst, eq-eqb, ◌||◌}
use Rattle.determinize_below.proofs.looks.LookBounds.{bit_small}
use Rattle.determinize_below.specs.Look.{has, insert, remove, subtract}
use Rattle.std.specs.Int.{bit_not}

-- the number of the assertion, from 0
unfoldable pub index_of : Look → ℕ
index_of Start = 0
index_of End = 1
index_of StartLF = 2
index_of EndLF = 3
index_of StartCRLF = 4
index_of EndCRLF = 5
index_of WordAscii = 6
index_of WordAsciiNegate = 7
index_of WordUnicode = 8
index_of WordUnicodeNegate = 9
index_of WordStartAscii = 10
index_of WordEndAscii = 11
index_of WordStartUnicode = 12
index_of WordEndUnicode = 13
index_of WordStartHalfAscii = 14
index_of WordEndHalfAscii = 15
index_of WordStartHalfUnicode = 16
index_of WordEndHalfUnicode = 17

-- its bit is 2 to the power of its number, which is its index in the list of all assertions
numbered : (l : Look)
    → (bit_of l ≡ 2 ^ index_of l) × (index_of l < 18) × (get_or each_look (index_of l) Start ≡ l)
unfolding index_of
numbered Start = (refl, lit< tt, refl)
numbered s = (refl, lit< tt, refl)

-- a property of the index of each assertion is one of each number below 18
at_indices : (P : ℕ → Type 0) → ((l : Look) → P (index_of l)) → (i : ℕ) → i < 18 → P i
unfolding index_of
at_indices P h i l =
    let e : index_of (get_or each_look i Start) ≡ i = eqb-true _ _
    (agree_below_at (λ k. nat_eq (index_of (get_or each_look k Start)) k) (λ k. true) 18 i refl l) in
    subst P e (h (get_or each_look i Start))

pub has-bit : (s : ℕ) (l : Look) → has s l ≡ nat_eq (bit_at s (index_of l)) 1
unfolding has
has-bit s l =
    rw ((numbered l).0, and_pow s (index_of l)) (grind (arith, bit_at-lt s (index_of l), pow_pos (index_of l)))

pub has-union : (a b : ℕ) (l : Look) → has (bit_or a b) l ≡ (has a l || has b l)
has-union a b l = grind (arith, has-bit, bit_at_or, bit_at-lt)

pub has-intersect : (a b : ℕ) (l : Look) → has (bit_and a b) l ≡ (has a l && has b l)
has-intersect a b l = grind (arith, has-bit, bit_at_and, bit_at-lt)

pub has-and_not : (a b : ℕ) (l : Look) → b < 2 ^ 32
    → has (bit_and a (bit_not w32 b)) l ≡ (has a l && not (has b l))
has-and_not a b l h =
    let k : index_of l < 18 = (numbered l).1 in
    let n = bit_at_not w32 b (index_of l) h (omega arith) in grind (arith, has-intersect, has-bit, bit_at-lt)

pub subtract-bits : (a b : ℕ) → subtract a b ≡ bit_and a (bit_not w32 b)
unfolding subtract
subtract-bits a b = refl

pub has-subtract : (a b : ℕ) (l : Look) → b < 2 ^ 32 → has (subtract a b) l ≡ (has a l && not (has b l))
has-subtract a b l h = rw subtract-bits (has-and_not a b l h)

pub has-empty : (l : Look) → has 0 l ≡ false
has-empty l = rw (has-bit 0 l, bit_at-zero (index_of l))

-- whether two assertions are equal
unfoldable pub same : Look → Look → Bool
same l k = nat_eq (index_of l) (index_of k)

has_single : (l k : Look) → has (bit_of l) k ≡ same l k
unfolding same
has_single l k = rw (has-bit (bit_of l) k, (numbered l).0) (grind (arith, nat_tests, bit_at-pow_same, bit_at-pow_other))

pub has-insert : (s : ℕ) (l k : Look) → has (insert s l) k ≡ (has s k || same l k)
unfolding insert
has-insert s l k = rw (has-union s (bit_of l) k, has_single l k)

pub has-remove : (s : ℕ) (l k : Look) → has (remove s l) k ≡ (has s k && not (same l k))
unfolding remove subtract
has-remove s l k =
    let h : bit_of l < 2 ^ 18 = bit_small l in
    has-subtract s (bit_of l) k (omega arith) ∙ ap (λ b. has s k && not b) (has_single l k)

-- the test of two assertions is their equality
pub Decides-same : (l k : Look) → Decides (same l k) (l ≡ k)
unfolding same
Decides-same l k = (
  λ h. sym ((numbered l).2) ∙ ap (λ i. get_or each_look i Start) (eqb-true _ _ h) ∙ (numbered k).2,
  λ e. eq-eqb _ _ (ap index_of e),
)

pub same_other : (l k : Look) → ¬ (k ≡ l) → same l k ≡ false
same_other l k n = false_from_ne_true _ (λ h. n (sym ((Decides-same l k).0 h)))

-- one assertion that passes the test
pub each_look-any : (test : Look → Bool) (l : Look) → test l ≡ true → list_any test each_look ≡ true
each_look-any test l h = list_any_at test each_look (index_of l) Start (numbered l).1 (ap test ((numbered l).2) ∙ h)

-- two sets with the same members are the same number
pub same_sets : (a b : ℕ) → a < 2 ^ 18 → b < 2 ^ 18 → ((l : Look) → has a l ≡ has b l) → a ≡ b
same_sets a b h k same_members =
    same_from_bits_below 18 a b h k
    (at_indices (λ i. bit_at a i ≡ bit_at b i) (λ l. grind (arith, bit_at-lt, has-bit, same_members l)))

-- a set is empty if and only if it has no member
pub Decides-empty : (s : ℕ) → s < 2 ^ 18 → Decides (nat_eq s 0) ((l : Look) → has s l ≡ false)
Decides-empty s h = (
  λ e l. ap (λ a. has a l) (eqb-true s 0 e) ∙ has-empty l,
  λ none. eq-eqb s 0 (same_sets s 0 h (lit< tt) (λ l. none l ∙ sym (has-empty l))),
)

-- the test for emptiness, on the members
pub ruleset emptiness = (Decides-empty)
