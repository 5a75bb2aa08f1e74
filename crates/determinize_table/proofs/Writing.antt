-- Writes of transitions to rows.
-- Main statements: written_one, range_filled, within_rows, written_none, written_then, written_as, class-with.
-- Used by: `write`, `write_range`, `write_class`, `write_shared`.
-- Idea: what is written over some units and then over others is written over both. To fill is to write each entry.
use Rattle.determinize_table.proofs.Common.{ap, arith, Bool, column, dead, false, in_one_class, in_range, None, is_unit, IsStored}
use Rattle.determinize_table.proofs.Common.{IsWritten, length, List, Option, refl, replicate, shares, slice_get-get_or, suc}
use Rattle.determinize_table.proofs.Common.{slice_set, Some, StoredTable, sym, Table, table_of, true}
use Rattle.determinize_table.proofs.Common.{Value, with_target, ℕ, ◌&&◌, ◌*◌, ◌+◌, ◌-◌, ◌<◌, ◌||◌, ◌∙◌, ◌≡◌}
use Rattle.std.proofs.Common.{Vec, zero, ◌≤◌}
use Rattle.std.proofs.lemmas.Bool.Decides.{nat_tests}
use Rattle.std.proofs.lemmas.List.{length-replicate, places, with_items_is}
use Rattle.std.proofs.lemmas.List.Edits.{fill_from_more, length-paste, paste_none}
use Rattle.std.proofs.lemmas.Slice.{put_mid-paste}
use Rattle.std.specs.Vec.{with_items}
use borrow.Rule.Slice.PartMut.{mid_of, put_mid}
use Rattle.std.proofs.Math.Seq.{paste}
use Rattle.std.specs.Prelude.{nat_lt}
use Rattle.determinize_below.specs.ByteClasses.{Classes}
use mathlib.Core.Path.{fun_ext}
use Rattle.determinize_table.proofs.TableRows.{rows-set, rows-store, table-is}

-- a table of these parts
abbrev pub stored : List Value → List ℕ → List (Option ℕ) → StoredTable
stored states rows starts = record { states = states; rows = rows; starts = starts }

-- the transition over one unit
module _ (old : StoredTable) (is : IsStored old.states old.rows) (s t : ℕ) (u : Option ℕ)
    (source : s < length old.states) (target : t < length old.states) (unit : is_unit u ≡ true) where
  pub stored_one : IsStored old.states (slice_set old.rows (s * 258 + column u) (t * 258))
  stored_one = rows-store (rows-set is s t _ _ u (slice_get-get_or old.states s dead source)
      (slice_get-get_or old.states t dead target) unit)

  pub written_one : IsWritten (shares None u) old s t
      (record old { rows = slice_set old.rows (s * 258 + column u) (t * 258) })
  written_one = record {
    states = refl;
    starts = refl;
    table = λ v w at_s at_t. table-is (rows-set is s t v w u at_s at_t unit);
  }

-- the entry of a unit is in the rows
pub within_rows : (old : StoredTable) {s row k len : ℕ} → IsStored old.states old.rows → s < length old.states
    → row ≡ s * 258 → k < 257 → len ≡ length old.rows → row + k < len
within_rows old is source row_is small len_is = omega (arith, source, is.size, row_is, small, len_is)

-- the same units
pub written_as : {p q : Option ℕ → Bool} {old new : StoredTable} {s t : ℕ} → ((y : Option ℕ) → p y ≡ q y)
    → IsWritten p old s t new → IsWritten q old s t new
written_as {p} {q} {old} {new} {s} {t} same_units wrote =
    let e : p ≡ q = fun_ext same_units in rw (← e) wrote

-- no units
pub written_none : (old : StoredTable) (s t : ℕ) → IsWritten (λ y. false) old s t old
written_none old s t = record {
  states = refl;
  starts = refl;
  table = λ v w at_s at_t.
      let e : with_target (λ y. false) (table_of old).target v w ≡ (table_of old).target =
      fun_ext (λ x. fun_ext (λ y. grind arith)) in
      ap (λ f. record { states = old.states; target = f }) (sym e);
}

-- some units and then others
pub written_then : {p q : Option ℕ → Bool} {old mid new : StoredTable} {s t : ℕ} → IsWritten p old s t mid
    → IsWritten q mid s t new → IsWritten (λ y. p y || q y) old s t new
written_then {p} {q} {old} {mid} {new} {s} {t} first second = record {
  states = second.states ∙ first.states;
  starts = second.starts ∙ first.starts;
  table = λ v w at_s at_t.
      let one = first.table v w at_s at_t in
      let two = second.table v w (rw first.states at_s) (rw first.states at_t) in
      let e : with_target q (with_target p (table_of old).target v w) v w
      ≡ with_target (λ y. p y || q y) (table_of old).target v w =
      fun_ext (λ x. fun_ext (λ y. grind arith)) in
      two ∙ ap (λ (x : Table). record { states = x.states; target = with_target q x.target v w }) one
      ∙ ap (λ f. record { states = old.states; target = f }) e;
}

-- the transitions over the n bytes from `first` on
module _ (old : StoredTable) (is : IsStored old.states old.rows) (s t first : ℕ) (source : s < length old.states)
    (target : t < length old.states) where
  abbrev with_range : ℕ → StoredTable
  with_range n = record old { rows = paste old.rows (s * 258 + first) (replicate n (t * 258)) n }

  range-next : (n : ℕ) → first + n < 256
      → slice_set (with_range n).rows (s * 258 + (first + n)) (t * 258) ≡ (with_range (suc n)).rows
  range-next n small =
      let place : s * 258 + (first + n) ≡ s * 258 + first + n = omega arith in
      let more : n + 1 ≡ suc n = omega arith in
      let e = fill_from_more old.rows (s * 258 + first) n (t * 258) (omega (arith, source, is.size, small)) in
      cc

  range-with : (n : ℕ) (y : Option ℕ)
      → (in_range first (first + n) y || shares None (Some (first + n)) y) ≡ in_range first (first + suc n) y
  range-with n None = refl
  range-with n (Some b) = grind (arith, nat_tests)

  range_is : (n : ℕ) → first + n ≤ 256
      → IsStored old.states (with_range n).rows × IsWritten (in_range first (first + n)) old s t (with_range n)
  range_is zero fits =
      let e : (with_range 0).rows ≡ old.rows = sym (paste_none old.rows (s * 258 + first) (replicate 0 (t * 258))) in
      rw e (is, written_as (λ y. grind (arith, nat_tests)) (written_none old s t))
  range_is (suc n) fits =
      let (stored, wrote) = range_is n (omega (arith, fits)) in
      let unit : is_unit (Some (first + n)) ≡ true = grind (arith, nat_tests, fits) in
      let one = written_one (with_range n) stored s t (Some (first + n)) source target unit in
      let all = written_as (range-with n) (written_then wrote one) in
      rw (← range-next n (omega (arith, fits)))
      (stored_one (with_range n) stored s t (Some (first + n)) source target unit, all)

-- the rows after `fill` on the entries of a range of bytes
module _ {Z : Type 0} (states : List Value) (v : Vec ℕ Z) (starts : List (Option ℕ)) (is : IsStored states v.items)
    (s t first end : ℕ) (source : s < length states) (target : t < length states)
    (range : (first ≤ end) × (end ≤ 256)) where
  abbrev filled : ℕ → List ℕ → List ℕ → List ℕ
  filled row xs ys = (with_items v (put_mid (row + first) (row + end - (row + first)) xs ys)).items

  fill_is : {row entry : ℕ} (xs ys : List ℕ) → row ≡ s * 258 → entry ≡ t * 258 → xs ≡ v.items
      → ys ≡ replicate (length (mid_of (row + first) (row + end - (row + first)) xs)) entry
      → filled row xs ys ≡ paste v.items (s * 258 + first) (replicate (end - first) (t * 258)) (end - first)
  fill_is {row} {entry} xs ys row_is entry_is same are =
      let n = end - first in
      let fits : row + end ≤ length xs = rw same (omega (arith, is.size, source, range, row_is)) in
      let long : length (mid_of (row + first) (row + end - (row + first)) xs) ≡ n = grind (arith, places) in
      let pasted = put_mid-paste (row + first) (row + end - (row + first)) xs ys (replicate n entry) n
      (rw long at are) (omega arith) (sym (length-replicate n entry)) in
      let size = length-paste xs (row + first) (replicate n entry) n (omega (arith, fits, range))
      (omega (arith, length-replicate n entry)) in
      with_items_is v _ (ap length pasted ∙ size ∙ ap length same ∙ sym v.ok.0) ∙ pasted ∙ rw (same, row_is, entry_is)

  pub range_filled : {row entry : ℕ} (xs ys : List ℕ) → row ≡ s * 258 → entry ≡ t * 258 → xs ≡ v.items
      → ys ≡ replicate (length (mid_of (row + first) (row + end - (row + first)) xs)) entry
      → IsStored states (filled row xs ys)
      × IsWritten (in_range first end) (stored states v.items starts) s t (stored states (filled row xs ys) starts)
  range_filled xs ys row_is entry_is same are =
      let all : first + (end - first) ≡ end = omega (arith, range) in
      let old = stored states v.items starts in
      let wrote = range_is old is s t first source target (end - first) (omega (arith, range)) in
      rw (fill_is xs ys row_is entry_is same are) (rw all at wrote)

-- the bytes of the class of a byte that are below a number
abbrev pub class_below : Classes → ℕ → ℕ → Option ℕ → Bool
class_below p b n y = in_one_class p (Some b) y && nat_lt (column y) n

module _ (p : Classes) (b : ℕ) where
  pub class-none : (n : ℕ) → ((c : ℕ) → in_one_class p (Some b) (Some c) ≡ true → n ≤ c) → (y : Option ℕ)
      → false ≡ class_below p b n y
  class-none n least None = refl
  class-none n least (Some c) = grind (arith, nat_tests, least c)

  pub class-all : (n : ℕ) → ((c : ℕ) → in_one_class p (Some b) (Some c) ≡ true → c < n) → (y : Option ℕ)
      → class_below p b n y ≡ in_one_class p (Some b) y
  class-all n most None = refl
  class-all n most (Some c) = grind (arith, nat_tests, most c)

  -- the bytes from n up to m, not including m, are of one class: of this one or of another
  module _ (n m : ℕ) (n≤m : n ≤ m)
      (run : (c : ℕ) → n ≤ c → c < m → in_one_class p (Some n) (Some c) ≡ true) where
    pub class-with : in_one_class p (Some b) (Some n) ≡ true → (y : Option ℕ)
        → (class_below p b n y || in_range n m y) ≡ class_below p b m y
    class-with in_it None = refl
    class-with in_it (Some c) = grind (arith, nat_tests, run c)

    pub class-without : in_one_class p (Some b) (Some n) ≡ false → (y : Option ℕ)
        → class_below p b n y ≡ class_below p b m y
    class-without out None = refl
    class-without out (Some c) = grind (arith, nat_tests, run c)

-- the unit, and then its class
pub shares-alone : (p : Classes) (y : Option ℕ) → shares None None y ≡ shares (Some p) None y
shares-alone p y = grind arith
