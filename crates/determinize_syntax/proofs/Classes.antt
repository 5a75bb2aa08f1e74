-- Sets of bytes and ranges that have them.
-- Main statements: class_of, in_either, has_more, kind_class.
-- Used by: the proofs of classes and of brackets.
-- Idea: one more range adds its bytes.
use Rattle.determinize_syntax.proofs.Common.{◌&&◌, ◌++◌, ◌+◌, ◌<◌, ◌==◌, ◌||◌, ◌∙◌, ◌∷◌, ◌≡◌, ◌≤◌, ◌⊎◌, Bool}
use Rattle.determinize_syntax.proofs.Common.{ClassBytesRange, Flags, HasBelow, HasBytes, IsClass, List, Re, Set, Some}
use Rattle.determinize_syntax.proofs.Common.{[], ap, arith, cond, false, folded, has, inl, inr, is_in, list_any, nat_eq}
use Rattle.determinize_syntax.proofs.Common.{nat_lt, not, pairs, refl, to_ascii_lowercase, to_ascii_uppercase, true}
use Rattle.determinize_syntax.proofs.Common.{turned, within, ℕ}

-- a class of one set is one of a set with the same bytes
pub class_of : (s t : Set) (re : Re) → IsClass s re → ((b : ℕ) → b < 256 → s b ≡ t b) → IsClass t re
class_of s t re h same = (h.0, h.1, λ b small. h.2 b small ∙ same b small)

-- whether a range has one of two bytes
abbrev pub has_either : ℕ → ℕ → ClassBytesRange → Bool
has_either a b r = within r.start r.end a || within r.start r.end b

pub in_either : (ranges : List ClassBytesRange) (a b : ℕ)
    → list_any (has_either a b) ranges ≡ (has ranges a || has ranges b)
in_either [] a b = refl
in_either (r ∷ rs) a b = ap (λ x. has_either a b r || x) (in_either rs a b)
    ∙ swap (within r.start r.end a) (within r.start r.end b) (has rs a) (has rs b) where
      swap : (w x y z : Bool) → ((w || x) || (y || z)) ≡ ((w || y) || (x || z))
      swap true x y z = refl
      swap false true true z = refl
      swap false true false z = refl
      swap false false y z = refl

pub has_more : (ranges more : List ClassBytesRange) (b : ℕ) → has (ranges ++ more) b ≡ (has ranges b || has more b)
has_more [] more b = refl
has_more (r ∷ rs) more b = ap (λ x. within r.start r.end b || x) (has_more rs more b)
    ∙ assoc (within r.start r.end b) _ _ where
      assoc : (x y z : Bool) → (x || (y || z)) ≡ ((x || y) || z)
      assoc true y z = refl
      assoc false y z = refl

nat_eq_cases : (b i : ℕ) → (b ≡ i) ⊎ (b ≡ i → ⊥)
nat_eq_cases b i = by_test (nat_eq b i) refl where
  by_test : (q : Bool) → nat_eq b i ≡ q → (b ≡ i) ⊎ (b ≡ i → ⊥)
  by_test true e = inl (grind (arith, e))
  by_test false e = inr (λ h. grind (arith, e, h))

within_one : (b c : ℕ) → within b b c ≡ (c == b)
within_one b c = grind (arith)

step_with : (x : Bool) (b i : ℕ) → (b ≡ i → x ≡ true)
    → ((nat_lt b i && x) || (within i i b || false)) ≡ (nat_lt b (i + 1) && x)
step_with true b i t = grind (arith)
step_with false b i t = elim (nat_eq_cases b i) [ inl e ↦ absurd (let f = t e in (cc)) | inr n ↦ grind (arith, n) ]

step_without : (x : Bool) (b i : ℕ) → (b ≡ i → x ≡ false) → (nat_lt b i && x) ≡ (nat_lt b (i + 1) && x)
step_without true b i t = elim (nat_eq_cases b i) [ inl e ↦ absurd (let f = t e in (cc)) | inr n ↦ grind (arith, n) ]
step_without false b i t = grind (arith)

-- the next byte, if it is in the set
pub below_with : (s : Set) (i : ℕ) (ranges more : List ClassBytesRange) (r : ClassBytesRange) → HasBelow s i ranges
    → more ≡ ranges ++ r ∷ [] → pairs (r ∷ []) ≡ (i, i) ∷ [] → s i ≡ true → HasBelow s (i + 1) more
below_with s i ranges more r h e p t b =
    ap (λ l. has l b) e ∙ has_more ranges (r ∷ []) b ∙ ap (λ x. x || has (r ∷ []) b) (h b)
    ∙ ap (λ l. (nat_lt b i && s b) || is_in l (Some b)) p ∙ step_with (s b) b i (λ q. ap s q ∙ t)

pub below_without : (s : Set) (i : ℕ) (ranges : List ClassBytesRange) → HasBelow s i ranges → s i ≡ false
    → HasBelow s (i + 1) ranges
below_without s i ranges h f b = h b ∙ step_without (s b) b i (λ q. ap s q ∙ f)

lower_small : (n b : ℕ) → 128 ≤ n → b < n → to_ascii_lowercase b < n
lower_small n b l h = grind (arith, l, h)

upper_small : (n b : ℕ) → 128 ≤ n → b < n → to_ascii_uppercase b < n
upper_small n b l h = grind (arith, l, h)

-- the cases of two sets with the same numbers below a limit
pub folded_same : (n : ℕ) (f : Flags) (r s : Set) → 128 ≤ n → ((b : ℕ) → b < n → r b ≡ s b) → (b : ℕ) → b < n
    → folded f r b ≡ folded f s b
folded_same n f r s l h b small = both f.case_insensitive where
  both : (x : Bool) → cond x (r (to_ascii_lowercase b) || r (to_ascii_uppercase b)) (r b)
      ≡ cond x (s (to_ascii_lowercase b) || s (to_ascii_uppercase b)) (s b)
  both true = ap (λ y. y || r (to_ascii_uppercase b)) (h (to_ascii_lowercase b) (lower_small n b l small))
      ∙ ap (λ y. s (to_ascii_lowercase b) || y) (h (to_ascii_uppercase b) (upper_small n b l small))
  both false = h b small

pub kind_class : (f : Flags) (n : Bool) (s : Set) (ranges : List ClassBytesRange) (class : List (ℕ × ℕ))
    → HasBytes s (pairs ranges) → HasBytes (turned n (folded f (has ranges))) class
    → HasBytes (turned n (folded f s)) class
kind_class f n s ranges class h k b small = k b small
    ∙ ap (λ x. cond n (not x) x) (folded_same 256 f (has ranges) s (omega arith) h b small)
