-- The first row that lists the same patterns, by a map from lists to rows.
-- Main statements: first-known, firsts-known, first-new, firsts-new.
-- Used by: `first_rows`.
-- Idea: the map has for each list the first of the rows so far that lists it.
use Rattle.determinize_dense.proofs.Common.{AreFirsts, arith, bytes_eq, IsFirstAlike, List, None, Option, patterns_at}
use Rattle.determinize_dense.proofs.Common.{Some, Table, ℕ, ◌+◌, ◌≡◌}
use Rattle.determinize_core.proofs.Common.{cond}
use Rattle.std.specs.Cmp.Lexicographic.{bytes_decides}

module _ {d : Table} {n : ℕ} {find : List ℕ → Option ℕ} (are : AreFirsts d n find) where
  -- a list that has a row
  pub first-known : {r : ℕ} → find (patterns_at d n) ≡ Some r → IsFirstAlike d n r
  first-known {r} at = grind (arith, are.found (patterns_at d n) r)

  pub firsts-known : {r : ℕ} → find (patterns_at d n) ≡ Some r → AreFirsts d (n + 1) find
  firsts-known {r} at = grind (arith, are.none)

  module _ (new : find (patterns_at d n) ≡ None) where
    -- a list that has none
    pub first-new : IsFirstAlike d n n
    first-new = grind (arith, are.none (patterns_at d n) new)

    pub firsts-new : {next : List ℕ → Option ℕ}
        → ((xs : List ℕ) → next xs ≡ cond (bytes_eq (patterns_at d n) xs) (Some n) (find xs)) → AreFirsts d (n + 1) next
    firsts-new {next} is = record {
      found = λ xs r at.
          grind (arith, bytes_decides (patterns_at d n) xs, is xs, are.found xs r, are.none (patterns_at d n) new);
      none = λ xs none s. grind (arith, bytes_decides (patterns_at d n) xs, is xs, are.none xs);
    }
