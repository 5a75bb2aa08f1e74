-- Characters as numbers written in base 64.
-- Main statements: chars_added, chars_same, one_char, accent.
-- Used by: the proofs of `chars_of` and `chars_law`, and the files in `characters`.
-- Idea: the bytes from one position to another are those that are read there one after the other.
use Rattle.std.proofs.lemmas.Bool.Decides.{nat_tests}
use Rattle.std.proofs.lemmas.Bool.{cases_lt, cond-false, cond-true}
use Rattle.std.proofs.lemmas.List.Folds.{drop_split}
use Rattle.std.proofs.lemmas.Option.{slice_get_within}
use Rattle.std.proofs.lemmas.Str.{encode_ascii, encode_same}
use Rattle.std.specs.Char.{IsScalar, encode_utf8}
use Rattle.std.specs.Prelude.{slice_get, slice_range}
use Rattle.std.proofs.Common.{◌↔◌, ◌⊎◌, ◌≡◌, ◌+◌, ◌-◌, ◌/◌, ◌%◌, ◌<◌, ◌≤◌, ◌&&◌, ◌++◌, ◌∙◌, ◌∷◌, ℕ, Bool, List, Some, [], ap, append_assoc, arith, drop, inl, inr, le-ltb, length, length-append, length-drop, lt-ltb, nat_lt, refl, subst, suc, sym, take, true, zero, zero-add}
use Rattle.ordered_reach.proofs.Cases.{by_cases, some_injective}
use Rattle.determinize_pattern.proofs.characters.Branches.{adds_both, adds_nothing, adds_same, all_added}
use Rattle.determinize_pattern.specs.Characters.{IsCharClass, IsCharFrom}
use Rattle.determinize_pattern.specs.Meaning.{Re}
use Rattle.determinize_pattern.specs.Patterns.{choice_of}
use Rattle.determinize_pattern.specs.Private.Characters.{Adds, IsNumberOf, IsWrittenFrom, is_from}

-- the bytes of a number
abbrev written : ℕ → ℕ → ℕ → List ℕ
written lead zero v = (lead + v) ∷ []
written lead (suc count) v = written lead count (v / 64) ++ (128 + v % 64) ∷ []

pub reads : (bytes : List ℕ) (i b : ℕ) → slice_get bytes i ≡ Some b → drop i bytes ≡ b ∷ drop (suc i) bytes
reads [] i b e = cc
reads (x ∷ xs) zero b e = ap (λ (y : ℕ). y ∷ xs) (some_injective x b e)
reads (x ∷ xs) (suc i) b e = reads xs i b e

read_back : (bytes rest : List ℕ) (i b : ℕ) → drop i bytes ≡ b ∷ rest
    → (slice_get bytes i ≡ Some b) × (drop (suc i) bytes ≡ rest)
read_back [] rest zero b e = ((cc), (cc))
read_back [] rest (suc i) b e = ((cc), (cc))
read_back (x ∷ xs) rest zero b e = ((cc), (cc))
read_back (x ∷ xs) rest (suc i) b e = read_back xs rest i b e

written_read : (bytes : List ℕ) (lead count v i j : ℕ) → IsWrittenFrom bytes lead count v i j
    → (drop i bytes ≡ written lead count v ++ drop j bytes) × (i < j) × (j ≤ length bytes)
written_read bytes lead zero v i j w =
    let within = slice_get_within bytes i (lead + v) w.0 in
    (rw w.1 (reads bytes i (lead + v) w.0), omega (arith, w.1), omega (arith, w.1, within))
written_read bytes lead (suc count) v i j w =
    let front = written lead count (v / 64) in
    let before = written_read bytes lead count (v / 64) i w.0 w.1 in
    let within = slice_get_within bytes w.0 (128 + v % 64) w.2 in
    let last = reads bytes w.0 (128 + v % 64) w.2 in (
      rw w.3 (before.0 ∙ ap (λ (r : List ℕ). front ++ r) last
          ∙ sym (append_assoc front ((128 + v % 64) ∷ []) (drop (suc w.0) bytes))),
      omega (arith, w.3, before.1),
      omega (arith, w.3, within),
    )

written_back : (bytes rest : List ℕ) (lead count v i : ℕ) → drop i bytes ≡ written lead count v ++ rest
    → (j : ℕ) × IsWrittenFrom bytes lead count v i j × (drop j bytes ≡ rest)
written_back bytes rest lead zero v i e =
    let r = read_back bytes rest i (lead + v) e in (suc i, (r.0, refl), r.1)
written_back bytes rest lead (suc count) v i e =
    let front = written lead count (v / 64) in
    let before = written_back bytes ((128 + v % 64) ∷ rest) lead count (v / 64) i
    (e ∙ append_assoc front ((128 + v % 64) ∷ []) rest) in
    let r = read_back bytes rest before.0 (128 + v % 64) before.2 in
    (suc before.0, (before.0, before.1, r.0, refl), r.1)

take_front : (xs ys : List ℕ) → take (length xs) (xs ++ ys) ≡ xs
take_front [] ys = refl
take_front (x ∷ xs) ys = ap (λ (r : List ℕ). x ∷ r) (take_front xs ys)

front_size : (bytes xs : List ℕ) (i j : ℕ) → drop i bytes ≡ xs ++ drop j bytes → i < j → j ≤ length bytes
    → j - i ≡ length xs
front_size bytes xs i j e l m =
    omega (arith, ap length e, length-drop i bytes, length-append xs (drop j bytes), length-drop j bytes)

range_of : (bytes xs : List ℕ) (i j : ℕ) → drop i bytes ≡ xs ++ drop j bytes → i < j → j ≤ length bytes
    → slice_range bytes i j ≡ xs
range_of bytes xs i j e l m =
    ap (take (j - i)) e ∙ ap (λ (n : ℕ). take n (xs ++ drop j bytes)) (front_size bytes xs i j e l m)
    ∙ take_front xs (drop j bytes)

same_place : (bytes : List ℕ) (i j : ℕ) → drop i bytes ≡ drop j bytes → i ≤ length bytes → j ≤ length bytes → i ≡ j
same_place bytes i j e l m = omega (arith, ap length e, length-drop i bytes, length-drop j bytes)

written_at : (bytes : List ℕ) (lead count v i j : ℕ) → i ≤ j → j ≤ length bytes
    → slice_range bytes i j ≡ written lead count v → IsWrittenFrom bytes lead count v i j
written_at bytes lead count v i j l m s =
    let back = written_back bytes (drop j bytes) lead count v i
    (drop_split bytes i j l ∙ ap (λ (r : List ℕ). r ++ drop j bytes) s) in
    let read = written_read bytes lead count v i back.0 back.1 in
    subst (λ (k : ℕ). IsWrittenFrom bytes lead count v i k)
    (same_place bytes back.0 j back.2 read.2 m) back.1

-- from a position, at most one character begins
pub one_char : (f : ℕ → Bool) (bytes : List ℕ) (i j k : ℕ) → IsCharFrom f bytes i j → IsCharFrom f bytes i k → j ≡ k
one_char f bytes i j k c d =
    let left : drop i bytes ≡ encode_utf8 c.0 ++ drop j bytes
    = drop_split bytes i j c.3 ∙ ap (λ (r : List ℕ). r ++ drop j bytes) c.5 in
    let right : drop i bytes ≡ encode_utf8 d.0 ++ drop k bytes
    = drop_split bytes i k d.3 ∙ ap (λ (r : List ℕ). r ++ drop k bytes) d.5 in
    same_place bytes j k (encode_same c.0 d.0 (drop j bytes) (drop k bytes) (sym left ∙ right)).1 c.4 d.4

encode_one : (c : ℕ) → c < 128 → encode_utf8 c ≡ written 0 0 c
encode_one c l = encode_ascii c l ∙ ap (λ (b : ℕ). b ∷ []) (sym (zero-add c))

pub encode_two : (c : ℕ) → 128 ≤ c → c < 2048 → encode_utf8 c ≡ written 192 1 c
unfolding encode_utf8
encode_two c l m = cond-false _ _ _ (le-ltb c 128 l) ∙ cond-true _ _ _ (lt-ltb c 2048 m)

pub three_bytes : (c : ℕ) → 2048 ≤ c → c < 65536
    → encode_utf8 c ≡ (224 + c / 4096) ∷ (128 + (c / 64) % 64) ∷ (128 + c % 64) ∷ []
unfolding encode_utf8
three_bytes c l m = cond-false _ _ _ (le-ltb c 128 (omega arith)) ∙ cond-false _ _ _ (le-ltb c 2048 l)
    ∙ cond-true _ _ _ (lt-ltb c 65536 m)

pub four_bytes : (c : ℕ) → 65536 ≤ c → encode_utf8 c
    ≡ (240 + c / 262144) ∷ (128 + (c / 4096) % 64) ∷ (128 + (c / 64) % 64) ∷ (128 + c % 64) ∷ []
unfolding encode_utf8
four_bytes c l = cond-false _ _ _ (le-ltb c 128 (omega arith)) ∙ cond-false _ _ _ (le-ltb c 2048 (omega arith))
    ∙ cond-false _ _ _ (le-ltb c 65536 l)

encode_three : (c : ℕ) → 2048 ≤ c → c < 65536 → encode_utf8 c ≡ written 224 2 c
encode_three c l m =
    let twice : c / 4096 ≡ c / 64 / 64 = omega arith in
    three_bytes c l m ∙ ap (λ (d : ℕ). (224 + d) ∷ (128 + (c / 64) % 64) ∷ (128 + c % 64) ∷ []) twice

encode_four : (c : ℕ) → 65536 ≤ c → encode_utf8 c ≡ written 240 3 c
encode_four c l =
    let twice : c / 4096 ≡ c / 64 / 64 = omega arith in
    let thrice : c / 262144 ≡ c / 64 / 64 / 64 = omega arith in
    four_bytes c l
    ∙ ap (λ (d : ℕ). (240 + d) ∷ (128 + (c / 4096) % 64) ∷ (128 + (c / 64) % 64) ∷ (128 + c % 64) ∷ []) thrice
    ∙ ap (λ (d : ℕ). (240 + c / 64 / 64 / 64) ∷ (128 + d % 64) ∷ (128 + (c / 64) % 64) ∷ (128 + c % 64) ∷ []) twice

pub accent : (f : ℕ → Bool) → f 0xE9 ≡ true → IsCharFrom f (0xC3 ∷ 0xA9 ∷ []) 0 2
unfolding encode_utf8
accent f h = (0xE9, refl, h, omega arith, omega arith, refl)

-- the numbers from low on and below high are characters that are written so
record IsBlock (lead count low high : ℕ) : Type 0 where
  pub scalar : (c : ℕ) → low ≤ c → c < high → IsScalar c
  pub bytes : (c : ℕ) → low ≤ c → c < high → encode_utf8 c ≡ written lead count c

pub below_surrogates : (c : ℕ) → c < 55296 → IsScalar c
below_surrogates c l = grind (arith, nat_tests)

above_surrogates : (c : ℕ) → 57344 ≤ c → c < 1114112 → IsScalar c
above_surrogates c l m = grind (arith, nat_tests)

no_surrogate : (c : ℕ) → IsScalar c → (c < 55296) ⊎ (57344 ≤ c)
no_surrogate c s = grind (arith, nat_tests)

pub scalar_end : (c : ℕ) → IsScalar c → c < 1114112
scalar_end c s = grind (arith, nat_tests)

of_one_byte : IsBlock 0 0 0 128
of_one_byte = record {
  scalar = λ c l m. below_surrogates c (omega arith);
  bytes = λ c l m. encode_one c m;
}

of_two_bytes : IsBlock 192 1 128 2048
of_two_bytes = record {
  scalar = λ c l m. below_surrogates c (omega arith);
  bytes = λ c l m. encode_two c l m;
}

before_surrogates : IsBlock 224 2 2048 55296
before_surrogates = record {
  scalar = λ c l m. below_surrogates c m;
  bytes = λ c l m. encode_three c l (omega arith);
}

after_surrogates : IsBlock 224 2 57344 65536
after_surrogates = record {
  scalar = λ c l m. above_surrogates c l (omega arith);
  bytes = λ c l m. encode_three c (omega arith) m;
}

of_four_bytes : IsBlock 240 3 65536 1114112
of_four_bytes = record {
  scalar = λ c l m. above_surrogates c (omega arith) m;
  bytes = λ c l m. encode_four c l;
}

from_start : (start end c : ℕ) → is_from start end c ≡ true → start ≤ c
from_start start end c h = grind (arith, nat_tests)

from_end : (start end c : ℕ) → is_from start end c ≡ true → c < end
from_end start end c h = grind (arith, nat_tests)

from_is : (start end c : ℕ) → start ≤ c → c < end → is_from start end c ≡ true
from_is start end c l m = grind (arith, nat_tests)

-- a test of the numbers from low on and below high
block_test : (test : ℕ → Bool) (low high c : ℕ) → (is_from low high c && test c) ≡ true
    → (low ≤ c) × (c < high) × (test c ≡ true)
block_test test low high c h = (grind (arith, nat_tests), grind (arith, nat_tests), grind (arith, nat_tests))

in_block : (test : ℕ → Bool) (low high c : ℕ) → low ≤ c → c < high → test c ≡ true
    → (is_from low high c && test c) ≡ true
in_block test low high c l m h = grind (arith, nat_tests)

-- the characters of a block are the numbers that are written so
chars_of_block : (test : ℕ → Bool) (lead count low high : ℕ) → IsBlock lead count low high → (bytes : List ℕ) (i j : ℕ)
    → IsCharFrom (λ c. is_from low high c && test c) bytes i j
    ↔ IsNumberOf lead count (λ v. (low ≤ v) × (v < high) × (test v ≡ true)) bytes i j
chars_of_block test lead count low high block bytes i j = (
  λ c.
      let passes = block_test test low high c.0 c.2 in
      (c.0, passes, written_at bytes lead count c.0 i j c.3 c.4 (c.5 ∙ block.bytes c.0 passes.0 passes.1)),
  λ n.
      let read = written_read bytes lead count n.0 i j n.2 in
      let before : i ≤ j = omega (arith, read.1) in (
        n.0,
        block.scalar n.0 n.1.0 n.1.1,
        in_block test low high n.0 n.1.0 n.1.1 n.1.2,
        before,
        read.2,
        range_of bytes (written lead count n.0) i j read.0 read.1 read.2 ∙ sym (block.bytes n.0 n.1.0 n.1.1),
      ),
)

-- the same characters pass both tests
pub chars_same : (f g : ℕ → Bool) → ((c : ℕ) → IsScalar c → f c ≡ true → g c ≡ true)
    → ((c : ℕ) → IsScalar c → g c ≡ true → f c ≡ true)
    → (bytes : List ℕ) (i j : ℕ) → IsCharFrom g bytes i j ↔ IsCharFrom f bytes i j
chars_same f g onward back bytes i j = (
  λ k. (k.0, k.1, back k.0 k.1 k.2, k.3, k.4, k.5),
  λ k. (k.0, k.1, onward k.0 k.1 k.2, k.3, k.4, k.5),
)

-- a character passes one test where it passes one of two others
char_either : (f g h : ℕ → Bool)
    → ((c : ℕ) → IsScalar c → h c ≡ true → (f c ≡ true) ⊎ (g c ≡ true))
    → ((c : ℕ) → f c ≡ true → h c ≡ true) → ((c : ℕ) → g c ≡ true → h c ≡ true)
    → (bytes : List ℕ) (i j : ℕ)
    → IsCharFrom h bytes i j ↔ (IsCharFrom f bytes i j ⊎ IsCharFrom g bytes i j)
char_either f g h split left right bytes i j = (
  λ c. by_cases (split c.0 c.1 c.2)
      (λ e. inl (c.0, c.1, e, c.3, c.4, c.5))
      (λ e. inr (c.0, c.1, e, c.3, c.4, c.5)),
  λ m. by_cases m
      (λ c. (c.0, c.1, left c.0 c.2, c.3, c.4, c.5))
      (λ c. (c.0, c.1, right c.0 c.2, c.3, c.4, c.5)),
)

module _ (test : ℕ → Bool) where
  -- the characters below a number that pass the test
  abbrev below : ℕ → ℕ → Bool
  below low c = nat_lt c low && test c

  below_test : (low c : ℕ) → below low c ≡ true → (c < low) × (test c ≡ true)
  below_test low c h = (grind (arith, nat_tests), grind (arith, nat_tests))

  is_below : (low c : ℕ) → c < low → test c ≡ true → below low c ≡ true
  is_below low c l h = grind (arith, nat_tests)

  -- one block more: no character is between it and those before
  next_block : (lead count low next high : ℕ) (a b c : List Re) → IsBlock lead count next high
      → low ≤ next → next ≤ high → ((d : ℕ) → IsScalar d → (d < low) ⊎ (next ≤ d))
      → Adds (IsCharFrom (below low)) a b
      → Adds (IsNumberOf lead count (λ v. (next ≤ v) × (v < high) × (test v ≡ true))) b c
      → Adds (IsCharFrom (below high)) a c
  next_block lead count low next high a b c block l m gap before added =
      let inside = λ (d : ℕ). is_from next high d && test d in
      adds_both (IsCharFrom (below low)) (IsCharFrom inside) (IsCharFrom (below high)) a b c
      (char_either (below low) inside (below high)
      (λ d s e.
      let passes = below_test high d e in
      by_cases (gap d s)
      (λ k. inl (is_below low d k passes.1))
      (λ k. inr (in_block test next high d k passes.0 passes.1)))
      (λ d e. let passes = below_test low d e in is_below high d (omega (arith, passes.0)) passes.1)
      (λ d e. let passes = block_test test next high d e in is_below high d passes.1 passes.2))
      before
      (adds_same (IsNumberOf lead count (λ v. (next ≤ v) × (v < high) × (test v ≡ true))) (IsCharFrom inside) b c
      (chars_of_block test lead count next high block) added)

  abbrev AddsBlock : ℕ → ℕ → ℕ → ℕ → List Re → List Re → Type 0
  AddsBlock lead count low high a b =
      Adds (IsNumberOf lead count (λ v. (low ≤ v) × (v < high) × (test v ≡ true))) a b

  pub chars_added : (r1 r2 r3 r4 r5 : List Re) → AddsBlock 0 0 0 128 [] r1 → AddsBlock 192 1 128 2048 r1 r2
      → AddsBlock 224 2 2048 55296 r2 r3 → AddsBlock 224 2 57344 65536 r3 r4
      → AddsBlock 240 3 65536 1114112 r4 r5 → IsCharClass test (choice_of r5)
  chars_added r1 r2 r3 r4 r5 one two three more four =
      let none = adds_nothing (IsCharFrom (below 0)) []
      (λ bytes i j c. let passes = below_test 0 c.0 c.2 in absurd (omega (arith, passes.0))) in
      let a = next_block 0 0 0 0 128 [] [] r1 of_one_byte (omega arith) (omega arith)
      (λ c s. inr (omega arith)) none one in
      let b = next_block 192 1 128 128 2048 [] r1 r2 of_two_bytes (omega arith) (omega arith)
      (λ c s. cases_lt c 128) a two in
      let c = next_block 224 2 2048 2048 55296 [] r2 r3 before_surrogates (omega arith) (omega arith)
      (λ c s. cases_lt c 2048) b three in
      let d = next_block 224 2 55296 57344 65536 [] r3 r4 after_surrogates (omega arith) (omega arith)
      (λ c s. no_surrogate c s) c more in
      let e = next_block 240 3 65536 65536 1114112 [] r4 r5 of_four_bytes (omega arith) (omega arith)
      (λ c s. cases_lt c 65536) d four in
      let all = adds_same (IsCharFrom (below 1114112)) (IsCharFrom test) [] r5
      (chars_same (below 1114112) test
      (λ c s h. (below_test 1114112 c h).1)
      (λ c s h. is_below 1114112 c (scalar_end c s) h)) e in
      λ t text i j. (all_added (IsCharFrom test) r5 all).each t text i j
