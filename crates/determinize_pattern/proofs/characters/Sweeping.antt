-- A sweep over ranges in order finds the characters that are in one of them, or in none.
-- Main statements: swept_gap, swept_next, next_lowest, swept_all.
-- Used by: the proof of `collect`.
-- Idea: a run ends where the next range begins after it, and no later range begins before that.
use Rattle.std.specs.List.Sorted.{IsNonDecreasingBy, IsPermutation}
use Rattle.std.proofs.lemmas.Bool.Decides.{nat_tests}
use Rattle.std.proofs.lemmas.Bool.{cases_lt}
use Rattle.std.proofs.lemmas.List.{get_or_default, map-append, take_more}
use Rattle.std.proofs.lemmas.List.Sorted.{IsPermutation-map, list_any-IsPermutation}
use Rattle.std.specs.Prelude.{not}
use Rattle.std.proofs.Common.{◌≡◌, ◌&&◌, ◌||◌, ◌+◌, ◌<◌, ◌≤◌, ◌++◌, ◌∙◌, ◌∷◌, ℕ, Bool, List, Some, [], ap, arith, cond, false, get_or, length, max, nat_lt, refl, sym, take, true}
use Rattle.ordered_reach.proofs.Cases.{by_cases}
use Rattle.determinize_below.specs.Semantics.{within}
use Rattle.determinize_pattern.proofs.characters.Utf8.{chars_same, scalar_end}
use Rattle.determinize_pattern.proofs.classes.Scanning.{in_push}
use Rattle.determinize_pattern.specs.Characters.{IsCharClass, char_pairs}
use Rattle.determinize_pattern.specs.Classes.{is_chosen}
use Rattle.determinize_pattern.specs.Meaning.{Re, is_in}
use Rattle.determinize_pattern.specs.Private.Characters.{IsSwept, in_runs, is_from}
use Rattle.determinize_pattern.specs.declared.chars.ClassUnicodeRange.{ClassUnicodeRange}
use Rattle.determinize_pattern.specs.declared.chars.TheConstants.{PAST}
use Rattle.determinize_pattern.specs.declared.utf8.Run.{Run}

passes_test : (b : Bool) (start c : ℕ) → (nat_lt c start && b) ≡ true → b ≡ true
passes_test b start c h = grind (arith, nat_tests)

both_tests : (b : Bool) (start c : ℕ) → c < start → b ≡ true → (nat_lt c start && b) ≡ true
both_tests b start c l h = grind (arith, nat_tests)

-- the same numbers are in sorted ranges
sorted_in : (ranges sorted : List ClassUnicodeRange) → IsPermutation ranges sorted → (c : ℕ)
    → is_in (char_pairs sorted) (Some c) ≡ is_in (char_pairs ranges) (Some c)
sorted_in ranges sorted same c =
    sym (list_any-IsPermutation (λ (r : ℕ × ℕ). within r.0 r.1 c) (char_pairs ranges) (char_pairs sorted)
    (IsPermutation-map (λ (r : ClassUnicodeRange). (r.start, r.end)) ranges sorted same))

chosen_same : (xs ys : List (ℕ × ℕ)) (negated : Bool) (c : ℕ) → is_in xs (Some c) ≡ is_in ys (Some c)
    → is_chosen xs negated c ≡ is_chosen ys negated c
chosen_same xs ys negated c e = ap (λ (b : Bool). cond negated (not b) b) e

-- the numbers from `end` on and below `next` are in no range
module _ (ranges : List (ℕ × ℕ)) (start end next : ℕ) (a b : List Run) where
  gap_found : (negated : Bool) → IsSwept ranges negated start end a → end ≤ next
      → ((c : ℕ) → in_runs b c ≡ (in_runs a c || cond negated (is_from end next c) (is_from start end c)))
      → (c : ℕ) → in_runs b c ≡ (nat_lt c next && is_chosen ranges negated c)
  gap_found false h l added c = by_cases (cases_lt c start)
      (λ k. grind (arith, nat_tests, h.begun, h.found c, added c))
      (λ k. by_cases (cases_lt c end)
      (λ m. grind (arith, nat_tests, h.begun, h.found c, added c, h.run c k m))
      (λ m. grind (arith, nat_tests, h.begun, h.found c, added c, h.after c m)))
  gap_found true h l added c = by_cases (cases_lt c start)
      (λ k. grind (arith, nat_tests, h.begun, h.found c, added c))
      (λ k. by_cases (cases_lt c end)
      (λ m. grind (arith, nat_tests, h.begun, h.found c, added c, h.run c k m))
      (λ m. grind (arith, nat_tests, h.begun, h.found c, added c, h.after c m)))

  pub swept_gap : (negated : Bool) → IsSwept ranges negated start end a → end ≤ next
      → ((c : ℕ) → in_runs b c ≡ (in_runs a c || cond negated (is_from end next c) (is_from start end c)))
      → IsSwept ranges negated next next b
  swept_gap negated h l added = record {
    begun = omega arith;
    run = λ c m n. absurd (omega arith);
    after = λ c m. h.after c (omega arith);
    found = gap_found negated h l added;
  }

module _ (ranges : List (ℕ × ℕ)) (first last : ℕ) where
  abbrev longer : List (ℕ × ℕ)
  longer = ranges ++ (first, last) ∷ []

  in_longer : (c : ℕ) → is_in ranges (Some c) ≡ true → is_in longer (Some c) ≡ true
  in_longer c h = grind (arith, in_push ranges first last c)

  in_new : (c : ℕ) → first ≤ c → c ≤ last → is_in longer (Some c) ≡ true
  in_new c l m = grind (arith, nat_tests, in_push ranges first last c)

  in_neither : (c : ℕ) → is_in ranges (Some c) ≡ false → last < c → is_in longer (Some c) ≡ false
  in_neither c h l = grind (arith, nat_tests, in_push ranges first last c)

  same_before : (c : ℕ) → c < first → is_in longer (Some c) ≡ is_in ranges (Some c)
  same_before c l = grind (arith, nat_tests, in_push ranges first last c)

  -- one more range, which begins in the last run or where it ends
  swept_more : (negated : Bool) (start end : ℕ) (a : List Run) → IsSwept ranges negated start end a
      → start ≤ first → first ≤ end → IsSwept longer negated start (max end (last + 1)) a
  swept_more negated start end a h l m = record {
    begun = omega (arith, h.begun);
    run = λ c k n. by_cases (cases_lt c end)
        (λ o. in_longer c (h.run c k o))
        (λ o. in_new c (omega arith) (omega arith));
    after = λ c k. in_neither c (h.after c (omega arith)) (omega arith);
    found = λ c. h.found c ∙ by_cases (cases_lt c first)
        (λ k. ap (λ (b : Bool). nat_lt c start && b) (chosen_same ranges longer negated c (sym (same_before c k))))
        (λ k. let late : nat_lt c start ≡ false = grind (arith, nat_tests) in rw late refl);
  }

-- the next range of the list
pub swept_next : (items : List ClassUnicodeRange) (index : ℕ) (d : ClassUnicodeRange) (negated : Bool)
    (start end : ℕ) (a : List Run) → index < length items
    → IsSwept (char_pairs (take index items)) negated start end a
    → start ≤ (get_or items index d).start → (get_or items index d).start ≤ end
    → IsSwept (char_pairs (take (index + 1) items)) negated start (max end ((get_or items index d).end + 1)) a
swept_next items index d negated start end a i h l m =
    let r = get_or items index d in
    let longer : char_pairs (take (index + 1) items) ≡ char_pairs (take index items) ++ (r.start, r.end) ∷ [] =
    ap char_pairs (take_more items index d i)
    ∙ map-append (λ (s : ClassUnicodeRange). (s.start, s.end)) (take index items) (r ∷ []) in
    rw longer (swept_more (char_pairs (take index items)) r.start r.end negated start end a h l m)

-- no later range begins before one
pub next_lowest : (items : List ClassUnicodeRange) (index k : ℕ) (d e : ClassUnicodeRange)
    → IsNonDecreasingBy (λ (r : ClassUnicodeRange). r.start) items → index ≤ k → k < length items
    → (get_or items index d).start ≤ (get_or items k e).start
next_lowest items index k d e ordered l m =
    let inside : index < length items = omega arith in
    let same : get_or items index d ≡ get_or items index e = get_or_default items index d e inside in
    rw same (ordered index k e l m)

-- after a sweep over all characters
pub swept_all : (ranges sorted : List ClassUnicodeRange) (negated : Bool) (runs : List Run) (re : Re)
    → IsPermutation ranges sorted → IsSwept (char_pairs sorted) negated PAST PAST runs
    → IsCharClass (in_runs runs) re → IsCharClass (is_chosen (char_pairs ranges) negated) re
swept_all ranges sorted negated runs re same h is t text i j =
    let chosen = is_chosen (char_pairs ranges) negated in
    let found : (c : ℕ) → in_runs runs c ≡ (nat_lt c PAST && chosen c) =
    λ c. h.found c ∙ ap (λ (b : Bool). nat_lt c PAST && b)
    (chosen_same (char_pairs sorted) (char_pairs ranges) negated c (sorted_in ranges sorted same c)) in
    let chars = chars_same (in_runs runs) chosen
    (λ c s e. passes_test (chosen c) PAST c (sym (found c) ∙ e))
    (λ c s e. found c ∙ both_tests (chosen c) PAST c (scalar_end c s) e) text.bytes i j in
    (λ m. chars.1 ((is t text i j).0 m), λ k. (is t text i j).1 (chars.0 k))
