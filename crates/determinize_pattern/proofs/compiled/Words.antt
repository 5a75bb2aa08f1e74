-- The words that begin with a byte, as a list of them is read, and the least such byte.
-- Main statements: found_more, found_same, least_new, least_low, least_kept, least_none, words_range, words_next.
-- Used by: the proofs of `with_byte`, `least_byte`, `lesser` and `tree`.
-- Idea: one more word adds its rest or nothing, and the least byte is the lesser of two.
use Rattle.std.specs.Borrow.{Bor}
use Rattle.std.specs.Option.{option_map_or}
use Rattle.std.specs.Prelude.{IfSome, nat_eq, nat_lt, slice_get, slice_index_or}
use Rattle.std.proofs.Common.{◌≡◌, ◌+◌, ◌<◌, ◌≤◌, ◌++◌, ◌⊎◌, ◌∙◌, ◌∷◌, ℕ, List, None, Option, Some, [], arith, drop, false, length, ltb-false, ltb-true, refl, suc, sym, take, true, zero}
use Rattle.std.proofs.lemmas.Bool.{false≢true}
use Rattle.std.proofs.lemmas.Bool.Decides.{nat_tests}
use Rattle.std.proofs.lemmas.List.{append-nil, drop-drop, map-append}
use Rattle.ordered_reach.proofs.Cases.{by_cases, by_test}
use Rattle.determinize_pattern.proofs.compiled.Growing.{map_take_more}
use Rattle.determinize_pattern.specs.Private.Words.{AddsByte, begins_with, rests_after, words_from}

-- a word more
rests_more : (b : ℕ) (words : List (List ℕ × ℕ)) (w : List ℕ × ℕ)
    → rests_after b (words ++ w ∷ []) ≡ rests_after b words ++ rests_after b (w ∷ [])
rests_more b [] w = refl
rests_more b (([], n) ∷ words) w = rests_more b words w
rests_more b ((c ∷ v, n) ∷ words) w = by_test (nat_eq c b)
    (λ e. rw (e, rests_more b words w) refl)
    (λ e. rw (e, rests_more b words w) refl)

rests_with : (b : ℕ) (w : List ℕ) (n : ℕ) → begins_with b w ≡ true → rests_after b ((w, n) ∷ []) ≡ (drop 1 w, n) ∷ []
rests_with b [] n e = absurd (false≢true e)
rests_with b (c ∷ w) n e = let z : nat_eq c b ≡ true = e in rw z refl

rests_without : (b : ℕ) (w : List ℕ × ℕ) → begins_with b w.0 ≡ false → rests_after b (w ∷ []) ≡ []
rests_without b ([], n) e = refl
rests_without b (c ∷ w, n) e = let z : nat_eq c b ≡ false = e in rw z refl

-- one more of the words that have a byte at a place
pub found_more : (place b k : ℕ) (words : List (Bor (List ℕ × ℕ))) (w : Bor (List ℕ × ℕ))
    (found : List (Bor (List ℕ × ℕ)))
    → k < length words → w ≡ slice_index_or words k w → begins_with b (drop place w.now.0) ≡ true
    → words_from (place + 1) found ≡ rests_after b (words_from place (take k words))
    → words_from (place + 1) (found ++ w ∷ []) ≡ rests_after b (words_from place (take (k + 1) words))
found_more place b k words w found l e h same =
    let one : (List ℕ × ℕ) = (drop place w.now.0, w.now.1) in
    let next : drop 1 (drop place w.now.0) ≡ drop (place + 1) w.now.0 = drop-drop 1 place w.now.0 in
    rw (
      map_take_more {Y = List ℕ × ℕ} (λ v. (drop place v.now.0, v.now.1)) words k w l e,
      map-append {B = List ℕ × ℕ} (λ (v : Bor (List ℕ × ℕ)). (drop (place + 1) v.now.0, v.now.1)) found (w ∷ []),
      rests_more b (words_from place (take k words)) one,
      rests_with b (drop place w.now.0) w.now.1 h,
      same,
      next,
    ) refl

pub found_same : (place b k : ℕ) (words : List (Bor (List ℕ × ℕ))) (w : Bor (List ℕ × ℕ))
    (found : List (Bor (List ℕ × ℕ)))
    → k < length words → w ≡ slice_index_or words k w → begins_with b (drop place w.now.0) ≡ false
    → words_from (place + 1) found ≡ rests_after b (words_from place (take k words))
    → words_from (place + 1) found ≡ rests_after b (words_from place (take (k + 1) words))
found_same place b k words w found l e h same =
    let one : (List ℕ × ℕ) = (drop place w.now.0, w.now.1) in
    rw (
      map_take_more {Y = List ℕ × ℕ} (λ v. (drop place v.now.0, v.now.1)) words k w l e,
      rests_more b (words_from place (take k words)) one,
      rests_without b one h,
      append-nil (rests_after b (words_from place (take k words))),
    ) same

-- the least byte with a word more
first_is : (b c : ℕ) (w : List ℕ) → slice_get w 0 ≡ Some c → (c ≡ b → ⊥) → begins_with b w ≡ false
first_is b c w e n = rw e (by_test (nat_eq c b)
    (λ z. absurd (n (grind (arith, nat_tests))))
    (λ z. z))

no_first : (b : ℕ) (w : List ℕ) → slice_get w 0 ≡ None → begins_with b w ≡ false
no_first b w e = rw e refl

none_more : (b : ℕ) (words : List (List ℕ × ℕ)) (w : List ℕ × ℕ) → rests_after b words ≡ []
    → begins_with b w.0 ≡ false
    → rests_after b (words ++ w ∷ []) ≡ []
none_more b words w h e = rests_more b words w ∙ rw (h, rests_without b w e) refl

-- the byte is the least one
pub least_new : (from : ℕ) (least : Option ℕ) (c : ℕ) → from ≤ c → option_map_or (λ x. nat_lt c x) least true ≡ true
    → AddsByte from least (Some c) (Some c)
least_new from None c l h words w e k =
    (l, λ b m n. none_more b words w (k b m) (first_is b c w.0 e (λ z. absurd (omega (arith, z, n)))))
least_new from (Some x) c l h words w e k =
    let below : c < x = ltb-true c x h in (
      l,
      λ b m n. none_more b words w (k.1 b m (omega (arith, n, below)))
          (first_is b c w.0 e (λ z. absurd (omega (arith, z, n)))),
    )

-- the byte is before the others
pub least_low : (from : ℕ) (least : Option ℕ) (c : ℕ) → c < from → AddsByte from least (Some c) least
least_low from None c l words w e k =
    λ b m. none_more b words w (k b m) (first_is b c w.0 e (λ z. absurd (omega (arith, z, l, m))))
least_low from (Some x) c l words w e k =
    (k.0, λ b m n. none_more b words w (k.1 b m n) (first_is b c w.0 e (λ z. absurd (omega (arith, z, l, m)))))

-- the byte is not below the least one
pub least_kept : (from : ℕ) (least : Option ℕ) (c : ℕ) → option_map_or (λ x. nat_lt c x) least true ≡ false
    → AddsByte from least (Some c) least
least_kept from None c h words w e k = absurd (false≢true (sym h))
least_kept from (Some x) c h words w e k =
    let above : x ≤ c = ltb-false c x h in
    (k.0, λ b m n. none_more b words w (k.1 b m n) (first_is b c w.0 e (λ z. absurd (omega (arith, z, n, above)))))

-- there is no byte
pub least_none : (from : ℕ) (least : Option ℕ) → AddsByte from least None least
least_none from None words w e k = λ b m. none_more b words w (k b m) (no_first b w.0 e)
least_none from (Some x) words w e k = (k.0, λ b m n. none_more b words w (k.1 b m n) (no_first b w.0 e))

-- the words before a place, and then a part of them
take_range : {A : Type 0} (a n : ℕ) (xs : List A) → take (a + n) xs ≡ take a xs ++ take n (drop a xs)
take_range zero n xs = let z : 0 + n ≡ n = omega arith in rw z refl
take_range (suc a) zero [] = let z : suc a + 0 ≡ suc a = omega arith in rw z refl
take_range (suc a) (suc n) [] = let z : suc a + suc n ≡ suc (a + suc n) = omega arith in rw z refl
take_range (suc a) n (x ∷ xs) = let z : suc a + n ≡ suc (a + n) = omega arith in rw (z, take_range a n xs) refl

pub words_range : (place a n : ℕ) (words : List (Bor (List ℕ × ℕ)))
    → words_from place (take (a + n) words) ≡ words_from place (take a words)
    ++ words_from place (take n (drop a words))
words_range place a n words = rw (take_range a n words)
    (map-append {B = List ℕ × ℕ} (λ (v : Bor (List ℕ × ℕ)). (drop place v.now.0, v.now.1)) (take a words)
    (take n (drop a words)))

pub words_next : (place k : ℕ) (words : List (Bor (List ℕ × ℕ))) (w : Bor (List ℕ × ℕ)) → k < length words
    → w ≡ slice_index_or words k w
    → words_from place (take (k + 1) words) ≡ words_from place (take k words) ++ (drop place w.now.0, w.now.1) ∷ []
words_next place k words w l e = map_take_more {Y = List ℕ × ℕ} (λ v. (drop place v.now.0, v.now.1)) words k w l e

pub small_one : (P : Type 0) (r least byte : Option ℕ) → IfSome r (λ x. (least ≡ Some x) ⊎ (byte ≡ Some x))
    → IfSome least (λ x. P) → IfSome byte (λ x. P) → IfSome r (λ x. P)
small_one P None least byte h f g = tt
small_one P (Some x) least byte h f g = by_cases h (λ e. rw e at f) (λ e. rw e at g)
