-- Scans by sets.
-- Main statements: none-stays, staying-all, staying-at, each-at.
-- Used by: `leaving`, `all_leaving` and `scan`.
-- Idea: a byte that is not in the set of a row leads the row to itself.
use Rattle.determinize_dense.proofs.Common.{All, arith, by_cases, cases_lt, get_or, get_or_from_slice_get, IsUnit, List}
use Rattle.determinize_dense.proofs.Common.{Bool, false, length, refl, slice_get_within, Some, StaysOver, sym, Table, Text}
use Rattle.determinize_dense.proofs.Common.{units, [], ℕ, ◌+◌, ◌-◌, ◌<◌, ◌∙◌, ◌≡◌, ◌≤◌}
use Rattle.determinize_dense.proofs.Common.{cases_eq, get_or-replicate, replicate, suc, true, ◌∷◌}
use Rattle.byte_set.specs.Sets.{HasNone, is_member}
use Rattle.determinize_dense.proofs.Offsets.{same-offset}
use Rattle.determinize_dense.specs.Private.Rows.{IsRowAt}
use Rattle.determinize_dense.specs.Private.Scans.{AreAllStaying, IsStaying}
use Rattle.determinize_dense.specs.declared.scans.TheConstants.{SETS}
use Rattle.determinize_engine.proofs.Texts.{unit-byte, unit-here}
use Rattle.std.proofs.lemmas.List.Elements.{All-get_or}
use Rattle.std.specs.Prelude.{slice_index_or, ⊤}

-- over bytes that are not in the set of a row this does not change
pub none-stays : (d : Table) (row r : ℕ) (set : List Bool) (text : Text) (from to : ℕ) → All IsUnit (units text)
    → IsRowAt d row r → IsStaying d r set → to ≤ length text.bytes → HasNone (is_member set) text.bytes from to
    → StaysOver d row text from to
none-stays d row r set text from to all is staying within none i h l =
    let at = unit-here text i (get_or text.bytes i 0)
    (unit-byte text.bytes i (get_or text.bytes i 0) (omega arith) refl) in
    let unit : IsUnit (Some (get_or text.bytes i 0)) =
    rw (get_or_from_slice_get (units text) i (Some (get_or text.bytes i 0)) (Some (get_or text.bytes i 0)) at) at
    (All-get_or IsUnit (units text) i (Some (get_or text.bytes i 0))
    (slice_get_within (units text) i (Some (get_or text.bytes i 0)) at) all) in
    record {
      unit = Some (get_or text.bytes i 0);
      at = at;
      is_unit = unit;
      goes = λ s within e.
          let same : s ≡ r = same-offset d (sym e ∙ is.1) in
          rw (same, staying (get_or text.bytes i 0) unit (none i h l)) (is.0, is.1);
    }

-- no byte is in the set of all
pub staying-all : (d : Table) (r : ℕ) → IsStaying d r (replicate 256 true)
staying-all d r byte few none = absurd (grind (arith, none, get_or-replicate {A = Bool} 256 byte true false few))

-- the set of the row at an offset
pub staying-at : (d : Table) (first offset number : ℕ) (sets : List (List Bool)) (other : List Bool)
    → AreAllStaying d first sets → IsRowAt d offset number → first ≤ number → number - first < SETS → (r : ℕ)
    → IsRowAt d offset r
    → IsStaying d r (slice_index_or sets (number - first) other)
staying-at d first offset number sets other all at h l r is =
    let same : r ≡ number = same-offset d (sym is.1 ∙ at.1) in
    let whole : first + (number - first) ≡ number = omega (arith, h) in
    rw same (rw whole at (all (number - first) other l))

-- this holds of each element and its index, of which the first is i
abbrev pub EachFrom : (ℕ → List Bool → Type 0) → ℕ → List (List Bool) → Type 0
EachFrom P i [] = ⊤
EachFrom P i (x ∷ xs) = P i x × EachFrom P (suc i) xs

pub each-at : (P : ℕ → List Bool → Type 0) (i : ℕ) (xs : List (List Bool)) → EachFrom P i xs
    → (k : ℕ) (other : List Bool)
    → i ≤ k → k < i + length xs → P k (get_or xs (k - i) other)
each-at P i [] each k other low high = absurd (omega arith)
each-at P i (x ∷ xs) each k other low high = by_cases (cases_eq k i)
    (λ same. let first : k - i ≡ 0 = omega (arith, same) in rw (first, same) each.0)
    (λ apart. let behind : k - i ≡ suc (k - suc i) = omega (arith, apart, low) in
    rw behind (each-at P (suc i) xs each.1 k other (omega (arith, apart, low)) (omega (arith, high))))
