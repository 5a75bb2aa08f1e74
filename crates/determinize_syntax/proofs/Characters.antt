-- Sets of bytes or characters, and patterns of one of them.
-- Main statements: one_of_listed, folded_ascii, class_added, all_added.
-- Used by: the proofs of `class`, of brackets and of atoms.
-- Idea: sets with the same numbers below that of the last character have the same patterns.
use Rattle.determinize_syntax.proofs.Common.{◌&&◌, ◌++◌, ◌<◌, ◌||◌, ◌∙◌, ◌∷◌, ◌≡◌, ◌≤◌, AddsChars, Bool}
use Rattle.determinize_syntax.proofs.Common.{ClassBytesRange, ClassKind, Flags, HasBytes, HasChars, IsOneOf, IsScalar}
use Rattle.determinize_syntax.proofs.Common.{List, Re, Set, Some, [], ap, arith, by_test, char_pairs, cond, false}
use Rattle.determinize_syntax.proofs.Common.{folded, has, has_char, is_in, list_any-append, ltb-false, ltb-true, nat_lt}
use Rattle.determinize_syntax.proofs.Common.{nat_tests, not, only, refl, set_of, sym, to_ascii_lowercase}
use Rattle.determinize_syntax.proofs.Common.{to_ascii_uppercase, true, turned, within, ℕ}
use Rattle.determinize_pattern.specs.Characters.{IsCharClass, IsCharFrom}
use Rattle.determinize_pattern.specs.declared.chars.ClassUnicodeRange.{ClassUnicodeRange}
use Rattle.determinize_syntax.specs.declared.kind.ClassKind.TheVariants.{Alnum, Alpha, Ascii, Blank, Cntrl, Digit}
use Rattle.determinize_syntax.specs.declared.kind.ClassKind.TheVariants.{Graph, Lower, Print, Punct, Space, Upper, Word}
use Rattle.determinize_syntax.specs.declared.kind.ClassKind.TheVariants.{Xdigit}
use Rattle.determinize_syntax.proofs.Classes.{class_of, folded_same}

scalar_small : (c : ℕ) → IsScalar c → c < 0x11_0000
scalar_small c s = grind (arith, nat_tests)

char_from : (s t : Set) (bytes : List ℕ) (i j : ℕ) → ((c : ℕ) → IsScalar c → s c ≡ t c) → IsCharFrom s bytes i j
    → IsCharFrom t bytes i j
char_from s t bytes i j same x = (x.0, x.1, sym (same x.0 x.1) ∙ x.2, x.3, x.4, x.5)

-- a class of the characters of one set is one of a set with the same characters
pub char_class_of : (s t : Set) (re : Re) → IsCharClass s re → ((c : ℕ) → IsScalar c → s c ≡ t c) → IsCharClass t re
char_class_of s t re h same m text i j = (
  λ x. char_from s t text.bytes i j same ((h m text i j).0 x),
  λ x. (h m text i j).1 (char_from t s text.bytes i j (λ c is. sym (same c is)) x),
)

pub one_of_same : (u : Bool) (s t : Set) (re : Re) → IsOneOf u s re → ((c : ℕ) → c < 0x11_0000 → s c ≡ t c)
    → IsOneOf u t re
one_of_same false s t re h same = class_of s t re h (λ b small. same b (omega arith))
one_of_same true s t re h same = char_class_of s t re h (λ c is. same c (scalar_small c is))

turned_same : (n : Bool) (f : Flags) (r s : Set) → ((c : ℕ) → c < 0x11_0000 → r c ≡ s c) → (c : ℕ) → c < 0x11_0000
    → turned n (folded f r) c ≡ turned n (folded f s) c
turned_same n f r s h c small = ap (λ x. cond n (not x) x) (folded_same 0x11_0000 f r s (omega arith) h c small)

-- the pattern of ranges is one of the set that they have
pub one_of_listed : (f : Flags) (n : Bool) (s : Set) (ranges : List ClassUnicodeRange) (re : Re)
    → HasChars s (char_pairs ranges)
    → IsOneOf f.unicode (turned n (folded f (has_char ranges))) re → IsOneOf f.unicode (turned n (folded f s)) re
one_of_listed f n s ranges re has h =
    one_of_same f.unicode (turned n (folded f (has_char ranges))) (turned n (folded f s)) re h
    (turned_same n f (has_char ranges) s has)

pub is_true : (b : Bool) → not b ≡ false → b ≡ true
is_true true e = refl
is_true false e = absurd (cc)

-- a range of one
pub has_one : (b : ℕ) (c : ℕ) → is_in ((b, b) ∷ []) (Some c) ≡ only b c
has_one b c = grind (arith)

-- classes that have a name are of ASCII
set_of_ascii : (k : ClassKind) (c : ℕ) → 128 ≤ c → set_of k c ≡ false
set_of_ascii Alnum c h = grind (arith, h)
set_of_ascii Alpha c h = grind (arith, h)
set_of_ascii Ascii c h = grind (arith, h)
set_of_ascii Blank c h = grind (arith, h)
set_of_ascii Cntrl c h = grind (arith, h)
set_of_ascii Digit c h = grind (arith, h)
set_of_ascii Graph c h = grind (arith, h)
set_of_ascii Lower c h = grind (arith, h)
set_of_ascii Print c h = grind (arith, h)
set_of_ascii Punct c h = grind (arith, h)
set_of_ascii Space c h = grind (arith, h)
set_of_ascii Upper c h = grind (arith, h)
set_of_ascii Word c h = grind (arith, h)
set_of_ascii Xdigit c h = grind (arith, h)

cases_wide : (c : ℕ) → 128 ≤ c → (to_ascii_lowercase c ≡ c) × (to_ascii_uppercase c ≡ c)
cases_wide c h = (grind (arith, h), grind (arith, h))

pub folded_ascii : (f : Flags) (k : ClassKind) (c : ℕ) → 128 ≤ c → folded f (set_of k) c ≡ false
folded_ascii f k c h = both f.case_insensitive where
  both : (x : Bool) → cond x (set_of k (to_ascii_lowercase c) || set_of k (to_ascii_uppercase c)) (set_of k c) ≡ false
  both true = rw ((cases_wide c h).0, (cases_wide c h).1, set_of_ascii k c h) refl
  both false = set_of_ascii k c h

-- the ASCII characters of a class were added, and where it is turned round all others
pub class_added : (n : Bool) (s : Set) (class old mid new : List (ℕ × ℕ)) → HasBytes (turned n s) class
    → ((c : ℕ) → 128 ≤ c → s c ≡ false)
    → ((c : ℕ) → is_in mid (Some c) ≡ (is_in old (Some c) || (nat_lt c 128 && is_in class (Some c))))
    → new ≡ cond n (mid ++ (128, 0x10_FFFF) ∷ []) mid → AddsChars (turned n s) old new
class_added false s class old mid new has high added e c small =
    ap (λ l. is_in l (Some c)) e ∙ added c ∙ ap (λ x. is_in old (Some c) || x) (by_test (nat_lt c 128)
    (λ l. ap (λ x. x && is_in class (Some c)) l ∙ has c (omega (arith, ltb-true c 128 l)))
    (λ l. ap (λ x. x && is_in class (Some c)) l ∙ sym (high c (ltb-false c 128 l))))
class_added true s class old mid new has high added e c small =
    ap (λ l. is_in l (Some c)) e ∙ list_any-append (λ (x : ℕ × ℕ). within x.0 x.1 c) mid ((128, 0x10_FFFF) ∷ [])
    ∙ ap (λ x. x || (within 128 0x10_FFFF c || false)) (added c) ∙ by_test (nat_lt c 128) low wide where
      low_or : (o x : Bool) → ((o || x) || (false || false)) ≡ (o || x)
      low_or true x = refl
      low_or false true = refl
      low_or false false = refl

      wide_or : (o : Bool) → ((o || false) || (true || false)) ≡ (o || true)
      wide_or true = refl
      wide_or false = refl

      low : nat_lt c 128 ≡ true → ((is_in old (Some c) || (nat_lt c 128 && is_in class (Some c)))
          || (within 128 0x10_FFFF c || false)) ≡ (is_in old (Some c) || not (s c))
      low l =
          let below : c < 128 = ltb-true c 128 l in
          let out : within 128 0x10_FFFF c ≡ false = grind (arith, below) in
          let in_class : is_in class (Some c) ≡ not (s c) = has c (omega arith) in
          rw (l, out, in_class) (low_or (is_in old (Some c)) (not (s c)))

      wide : nat_lt c 128 ≡ false → ((is_in old (Some c) || (nat_lt c 128 && is_in class (Some c)))
          || (within 128 0x10_FFFF c || false)) ≡ (is_in old (Some c) || not (s c))
      wide l =
          let above : 128 ≤ c = ltb-false c 128 l in
          let out : within 128 0x10_FFFF c ≡ true = grind (arith, above, small) in
          rw (l, out, high c above) (wide_or (is_in old (Some c)))

-- what is listed, with the ASCII part of the ranges to come, is the set
abbrev pub IsAdding : List (ℕ × ℕ) → List ClassBytesRange → Set → Type 0
IsAdding listed rest s = (c : ℕ) → (is_in listed (Some c) || (nat_lt c 128 && has rest c)) ≡ s c

pub all_added : (listed : List (ℕ × ℕ)) (rest : List ClassBytesRange) (s : Set) → IsAdding listed rest s → rest ≡ []
    → (c : ℕ) → is_in listed (Some c) ≡ s c
all_added listed rest s h e c =
    sym (ap (λ l. is_in listed (Some c) || (nat_lt c 128 && has l c)) e ∙ none (is_in listed (Some c)) (nat_lt c 128))
    ∙ h c where
      none : (x l : Bool) → (x || (l && false)) ≡ x
      none true l = refl
      none false true = refl
      none false false = refl
