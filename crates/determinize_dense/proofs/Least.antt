-- Tables with one meaning, of which one has the fewest rows.
-- Main statements: row_after-more, row_after-below, has_rows, least_is_least.
-- Used by: Merging, Searching, Stepping, `len`, the starts and the walker, and the law of the fewest rows.
-- Idea: rows of the one table that are reached by the same units as one row of the other list the same, and so are one.
use Rattle.determinize_dense.proofs.Common.{All, All-append, All-head, All-tail, AreApart, arith, by_cases, cases_eq}
use Rattle.determinize_dense.proofs.Common.{cases_lt, DfaValue, inl, inr, IsDfa, IsDfaOf, IsLeast, IsReachedRow, IsUnit}
use Rattle.determinize_dense.proofs.Common.{length, List, MatchKind, Nfa, Option, patterns_at, refl, row_after}
use Rattle.determinize_dense.proofs.Common.{row_over, slot_number-below, start_row, sym, Table, [], ℕ, ◌++◌, ◌<◌, ◌∙◌}
use Rattle.determinize_dense.proofs.Common.{◌∷◌, ◌≡◌, ◌≤◌, ◌⊎◌}
use Rattle.determinize_dense.proofs.Pigeonhole.{pigeonhole}
use Rattle.determinize_dense.specs.Least.{HasRows}

-- units after units
pub row_after-more : (d : Table) (us rest : List (Option ℕ)) (r : ℕ)
    → row_after d r (us ++ rest) ≡ row_after d (row_after d r us) rest
row_after-more d [] rest r = refl
row_after-more d (u ∷ us) rest r = row_after-more d us rest (row_over d r u)

-- the row after units is a row
pub row_after-below : (nfa : Nfa) (d : Table) → HasRows nfa d → (us : List (Option ℕ)) (r : ℕ) → r < length d.patterns
    → All IsUnit us → row_after d r us < length d.patterns
row_after-below nfa d rows [] r h all = h
row_after-below nfa d rows (u ∷ us) r h all =
    row_after-below nfa d rows us (row_over d r u) (rows.rows r u h (All-head IsUnit u us all))
    (All-tail IsUnit u us all)

-- the rows of a DFA
pub has_rows : (v : DfaValue) → IsDfa v → HasRows v.nfa v.table
has_rows v is = grind (arith, slot_number-below)

module _ (nfa : Nfa) (kind : MatchKind) (d e : Table) (is_d : IsDfaOf nfa kind d) (least : IsLeast nfa d)
    (is_e : IsDfaOf nfa kind e) (rows : HasRows nfa e) where
  -- the row of the other table after the same units
  abbrev row_of : {r : ℕ} → IsReachedRow nfa d r → ℕ
  row_of k = row_after e (start_row nfa e k.0 k.1) k.2

  row_of-below : {r : ℕ} (k : IsReachedRow nfa d r) → row_of k < length e.patterns
  row_of-below k = row_after-below nfa e rows k.2 (start_row nfa e k.0 k.1) (rows.starts k.0 k.1 k.3) k.4

  -- both list the same patterns along all units
  listed-alike : {r : ℕ} (k : IsReachedRow nfa d r) (us : List (Option ℕ)) → All IsUnit us
      → patterns_at d (row_after d r us) ≡ patterns_at e (row_after e (row_of k) us)
  listed-alike {r} k us all =
      let units = All-append IsUnit k.2 us k.4 all in
      grind (arith, row_after-more, is_d k.0 k.1 (k.2 ++ us) k.3 units, is_e k.0 k.1 (k.2 ++ us) k.3 units)

  -- rows with one row of the other table are one
  same_row : (r s : ℕ) → r < length d.patterns → s < length d.patterns → (j : IsReachedRow nfa d r)
      → (k : IsReachedRow nfa d s) → row_of j ≡ row_of k → r ≡ s
  same_row r s h l j k same = by_cases (cases_eq r s) (λ same. same) (λ differ.
      let a : AreApart d r s = least.apart r s h l differ in
      absurd (a.2 (grind (arith, listed-alike j a.0 a.1, listed-alike k a.0 a.1))))

  abbrev row_for : (r : ℕ) → (r < length d.patterns) ⊎ (length d.patterns ≤ r) → ℕ
  row_for r (inl h) = row_of (least.reached r h)
  row_for r (inr h) = 0

  -- each row has its row of the other table
  row_for-is : (r : ℕ) → r < length d.patterns → (c : (r < length d.patterns) ⊎ (length d.patterns ≤ r))
      → (k : IsReachedRow nfa d r) × (row_for r c ≡ row_of k)
  row_for-is r l (inl h) = (least.reached r h, refl)
  row_for-is r l (inr h) = absurd (omega arith)

  -- the law of the fewest rows
  pub least_is_least : length d.patterns ≤ length e.patterns
  least_is_least = pigeonhole (length d.patterns) (length e.patterns) (λ r. row_for r (cases_lt r (length d.patterns)))
      (λ r h. let k = row_for-is r h (cases_lt r (length d.patterns)) in rw k.1 (row_of-below k.0))
      (λ r s h l same.
      let j = row_for-is r h (cases_lt r (length d.patterns)) in
      let k = row_for-is s l (cases_lt s (length d.patterns)) in
      same_row r s h l j.0 k.0 (sym j.1 ∙ same ∙ k.1))
