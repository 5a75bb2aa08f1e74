-- The assertions that hold after a byte for every next unit, as a table.
-- Main statements: known_is, known-holds, Decides-all_units.
-- Used by: `known_law`, StartKinds, StepTables.
-- Idea: each assertion outside the table is refuted by one of six units, for any byte.
use Rattle.determinize_below.proofs.Common.{◌<◌, ◌||◌, ◌≡◌, ◌∙◌, and_from, and_parts, arith, behind_test, Bool, by_cases, by_test, cases_lt, crlf_second, Decides, false, false_from_ne_true, holds, is, is_known, is_none, is_word, IsUnit, lit<, Look, None, not, Option, refl, Some, suc, sym, true, zero, ℕ}
use Rattle.determinize_below.specs.Semantics.{is_word_byte}
use Rattle.determinize_below.specs.Truth.{all_below, all_units}

Decides-all_below : (n : ℕ) (test : ℕ → Bool) → Decides (all_below n test) ((b : ℕ) → b < n → test b ≡ true)
unfolding all_below
Decides-all_below zero test = (λ e b l. absurd (omega arith), λ h. refl)
Decides-all_below (suc n) test = (
  λ e b l. by_cases (cases_lt b n)
      ((Decides-all_below n test).0 (and_parts _ _ e).1 b)
      (λ k. let last : b ≡ n = omega arith in rw last (and_parts _ _ e).0),
  λ h. and_from _ _ (h n (omega arith)) ((Decides-all_below n test).1 (λ b l. h b (omega arith))),
)

-- the test of all units
pub Decides-all_units : (test : Option ℕ → Bool)
    → Decides (all_units test) ((q : Option ℕ) → IsUnit q → test q ≡ true)
unfolding all_units
Decides-all_units test = (
  λ e q. elim q as (λ q. IsUnit q → test q ≡ true) [
    | None ↦ λ k. (and_parts _ _ e).0
    | Some b ↦ (Decides-all_below 256 (λ b. test (Some b))).0 (and_parts _ _ e).1 b
  ],
  λ h. and_from _ _ (h None tt) ((Decides-all_below 256 (λ b. test (Some b))).1 (λ b. h (Some b))),
)

-- whether the assertion is in the table
abbrev in_table : Bool → ℕ → Option ℕ → Look → Bool
in_table reverse t p l =
    behind_test (is_none p) (is_none p || is p t) (is_none p || is p (crlf_second reverse)) (not (is_word p)) l

-- an assertion in the table holds for every next unit
table-holds : (reverse : Bool) (t : ℕ) (p q : Option ℕ) (l : Look) → in_table reverse t p l ≡ true
    → holds reverse t p q l ≡ true
table-holds reverse t p q l h = grind arith

letter : is_word_byte 97 ≡ true
unfolding is_word_byte
letter = refl

-- any other fails for EOI, the numbers 0 and 1, the bytes of a CRLF, or a word byte
table-fails : (reverse : Bool) (t : ℕ) (p : Option ℕ) (l : Look) → in_table reverse t p l ≡ false
    → ((q : Option ℕ) → IsUnit q → holds reverse t p q l ≡ true) → ⊥
table-fails reverse t p l h all =
    grind (
      arith,
      letter,
      all None tt,
      all (Some 0) (lit< tt),
      all (Some 1) (lit< tt),
      all (Some 10) (lit< tt),
      all (Some 13) (lit< tt),
      all (Some 97) (lit< tt),
    )

-- the look-behind satisfies Start, StartLF, StartCRLF or a half word start if the byte before does,
-- and no other assertion
pub known_is : (reverse : Bool) (t : ℕ) (p : Option ℕ) (l : Look)
    → is_known reverse t p l ≡ behind_test (is_none p) (is_none p || is p t) (is_none p || is p (crlf_second reverse))
    (not (is_word p)) l
known_is reverse t p l =
    let known = Decides-all_units (λ q. holds reverse t p q l) in
    by_test (in_table reverse t p l)
    (λ e. known.1 (λ q k. table-holds reverse t p q l e) ∙ sym e)
    (λ e. false_from_ne_true _ (λ k. table-fails reverse t p l e (known.0 k)) ∙ sym e)

-- an assertion satisfied by the look-behind holds for every next unit
pub known-holds : (reverse : Bool) (t : ℕ) (p q : Option ℕ) (l : Look) → is_known reverse t p l ≡ true
    → holds reverse t p q l ≡ true
known-holds reverse t p q l h = table-holds reverse t p q l (sym (known_is reverse t p l) ∙ h)
