-- A scan of all bytes finds the ranges of those that pass a test.
-- Main statements: in_some, chosen_is, in_push, scanned_more, scanned_closed, all_scanned, all_apart.
-- Used by: the proofs of `collect` and `negated`.
-- Idea: each range ends before a byte that does not pass.
use Rattle.std.specs.List.{list_any}
use mathlib.Core.Bool.{beq}
use Rattle.std.specs.Prelude.{nat_lt, not}
use Rattle.std.proofs.Common.{◌≡◌, ◌+◌, ◌-◌, ◌<◌, ◌≤◌, ◌++◌, ◌∙◌, ◌∷◌, ◌||◌, ℕ, Bool, List, Some, [], arith, false, ltb-false, ltb-true, refl, suc, sym, true}
use Rattle.std.proofs.lemmas.Bool.Decides.{nat_tests}
use Rattle.std.proofs.lemmas.List.Folds.{list_any-append}
use Rattle.ordered_reach.proofs.Cases.{by_test}
use Rattle.determinize_below.specs.Semantics.{within}
use Rattle.determinize_pattern.specs.Classes.{is_apart, is_chosen, pairs}
use Rattle.determinize_pattern.specs.Meaning.{is_in}
use Rattle.determinize_pattern.specs.Private.Scanning.{IsScanned, after_all, with_range}
use Rattle.determinize_pattern.specs.declared.class.ClassBytesRange.{ClassBytesRange}

pub in_some : (ranges : List ClassBytesRange) (b : ℕ)
    → list_any (λ (r : ClassBytesRange). within r.start r.end b) ranges ≡ is_in (pairs ranges) (Some b)
in_some [] b = refl
in_some (r ∷ rs) b = rw (in_some rs b) refl

pub chosen_is : (ranges : List (ℕ × ℕ)) (negated : Bool) (b : ℕ)
    → is_chosen ranges negated b ≡ not (beq (is_in ranges (Some b)) negated)
chosen_is ranges true b = by_test (is_in ranges (Some b)) (λ e. rw e refl) (λ e. rw e refl)
chosen_is ranges false b = by_test (is_in ranges (Some b)) (λ e. rw e refl) (λ e. rw e refl)

apart_push : (low : ℕ) (xs : List (ℕ × ℕ)) (s e : ℕ) → is_apart low xs ≡ true → after_all low xs ≤ s → s ≤ e
    → is_apart low (xs ++ (s, e) ∷ []) ≡ true
apart_push low [] s e a l m = grind (arith, nat_tests)
apart_push low (x ∷ xs) s e a l m = grind (arith, nat_tests, apart_push (suc (suc x.1)) xs s e)

after_push : (low : ℕ) (xs : List (ℕ × ℕ)) (s e : ℕ) → after_all low (xs ++ (s, e) ∷ []) ≡ suc (suc e)
after_push low [] s e = refl
after_push low (x ∷ xs) s e = after_push (suc (suc x.1)) xs s e

after_later : (low : ℕ) (xs : List (ℕ × ℕ)) → is_apart low xs ≡ true → low ≤ after_all low xs
after_later low [] a = omega arith
after_later low (x ∷ xs) a = grind (arith, nat_tests, after_later (suc (suc x.1)) xs)

not_after : (low : ℕ) (xs : List (ℕ × ℕ)) (b : ℕ) → is_apart low xs ≡ true → after_all low xs ≤ b
    → is_in xs (Some b) ≡ false
not_after low [] b a l = refl
not_after low (x ∷ xs) b a l =
    grind (arith, nat_tests, after_later (suc (suc x.1)) xs, not_after (suc (suc x.1)) xs b)

pub in_push : (xs : List (ℕ × ℕ)) (s e b : ℕ)
    → is_in (xs ++ (s, e) ∷ []) (Some b) ≡ (is_in xs (Some b) || (within s e b || false))
in_push xs s e b = list_any-append (λ r. within r.0 r.1 b) xs ((s, e) ∷ [])

module _ (test : ℕ → Bool) (xs : List (ℕ × ℕ)) (start i : ℕ) (h : IsScanned test xs start i) where
  pub all_apart : is_apart 0 (with_range xs start i) ≡ true
  all_apart = by_test (nat_lt start i)
      (λ z. let l : start < i = ltb-true start i z in
      rw z (apart_push 0 xs start (i - 1) h.apart h.after (omega arith)))
      (λ z. rw z h.apart)

  pub all_after : after_all 0 (with_range xs start i) ≤ i + 1
  all_after = by_test (nat_lt start i)
      (λ z. let l : start < i = ltb-true start i z in
      rw (z, after_push 0 xs start (i - 1)) (omega arith))
      (λ z. rw z (omega (arith, h.after, h.begun)))

  pub all_scanned : (b : ℕ) → b < i → is_in (with_range xs start i) (Some b) ≡ test b
  all_scanned b m = by_test (nat_lt start i)
      (λ z. let l : start < i = ltb-true start i z in
      rw (z, in_push xs start (i - 1) b) (by_test (nat_lt b start)
      (λ y. let k : b < start = ltb-true b start y in
      let out : within start (i - 1) b ≡ false = grind (arith, nat_tests) in
      rw out (grind (arith, h.below b)))
      (λ y. let k : start ≤ b = ltb-false b start y in
      let old : is_in xs (Some b) ≡ false = not_after 0 xs b h.apart (omega (arith, h.after)) in
      let inside : within start (i - 1) b ≡ true = grind (arith, nat_tests) in
      rw (old, inside) (sym (h.unbroken b k m)))))
      (λ z. rw z (h.below b (omega (arith, h.begun, ltb-false start i z))))

  pub scanned_more : test i ≡ true → IsScanned test xs start (i + 1)
  scanned_more e = record {
    apart = h.apart;
    after = h.after;
    begun = omega (arith, h.begun);
    below = h.below;
    unbroken = λ b l m. by_test (nat_lt b i)
        (λ z. h.unbroken b l (ltb-true b i z))
        (λ z. let q : b ≡ i = omega (arith, m, ltb-false b i z) in rw q e);
  }

  pub scanned_closed : test i ≡ false → IsScanned test (with_range xs start i) (i + 1) (i + 1)
  scanned_closed e = record {
    apart = all_apart;
    after = all_after;
    begun = omega arith;
    below = λ b l. by_test (nat_lt b i)
        (λ z. all_scanned b (ltb-true b i z))
        (λ z. let q : b ≡ i = omega (arith, l, ltb-false b i z) in rw q (last ∙ sym e));
    unbroken = λ b l m. absurd (omega (arith, l, m));
  }
    where
      last : is_in (with_range xs start i) (Some i) ≡ false
      last = by_test (nat_lt start i)
          (λ z. let l : start < i = ltb-true start i z in
          let old : is_in xs (Some i) ≡ false = not_after 0 xs i h.apart (omega (arith, h.after)) in
          let out : within start (i - 1) i ≡ false = grind (arith, nat_tests) in
          rw (z, in_push xs start (i - 1) i, old, out) refl)
          (λ z. rw z (not_after 0 xs i h.apart (omega (arith, h.after, h.begun))))
