-- The rows of a table: the targets that they store, and rows with one more state or one more transition.
-- Main statements: table-is, pushed, rows-set, entry-read.
-- Used by: Changes, and the proofs of `push` and `lookup`.
-- Idea: different pairs of row and column have different places, so a write changes one entry. Rows determine the
-- targets (table-is), so it is enough to give those of the new rows.
use Rattle.determinize_table.proofs.Common.{[], AreRows, arith, by_cases, by_option, column, drop, entry_at, false}
use Rattle.determinize_table.proofs.Common.{index_in, is_unit, IsStored, Leads, length, length-set, List, list_any}
use Rattle.determinize_table.proofs.Common.{None, Option, replicate, same, slice_get, slice_get_within, slice_index}
use Rattle.determinize_table.proofs.Common.{shares, slice_set, Some, state_at, sym, table_in, tag_in, tag_of, take, target_in}
use Rattle.determinize_table.proofs.Common.{true, Value, with_state, with_target, ℕ, ◌*◌, ◌++◌, ◌+◌, ◌-◌, ◌/◌, ◌<◌, ◌∙◌}
use Rattle.determinize_table.proofs.Common.{◌∷◌, ◌≡◌, ◌≢◌}
use Rattle.std.proofs.lemmas.Bool.Decides.{nat_tests}
use Rattle.std.proofs.lemmas.Grind.{get_or-set_at}
use Rattle.std.proofs.lemmas.List.{places}
use Rattle.determinize_engine.proofs.Places.{apart-push, get_more, get_push, not_both, there}
use Rattle.determinize_table.proofs.Values.{Decides-unit, index_is, none_passes, with_target-by}

column-lt : (u : Option ℕ) → is_unit u ≡ true → column u < 257
column-lt u h = grind (arith, nat_tests)

column_once : (u w : Option ℕ) → is_unit u ≡ true → is_unit w ≡ true → column u ≡ column w → u ≡ w
column_once u w h k e = grind (arith, nat_tests)

-- what an entry says of the target; 1 is the offset of no row
leads-state : (states : List Value) (e : ℕ) (o : Option Value) → Leads states e o → state_at states e ≡ o
leads-state states e o is = grind (arith, nat_tests)

pub leads-none : (states : List Value) (e : ℕ) (o : Option Value) → Leads states e o → e ≡ 1 → o ≡ None
leads-none states e o is one = grind (arith, nat_tests)

pub leads-row : (states : List Value) (e : ℕ) (o : Option Value) → Leads states e o → e ≢ 1
    → (e ≡ e / 258 * 258) × (e / 258 < length states) × (o ≡ slice_get states (e / 258))
leads-row states e o is apart = grind (arith, nat_tests, slice_get_within {A = Value})

leads-more : (states : List Value) (w : Value) (e : ℕ) (o : Option Value) → Leads states e o
    → Leads (states ++ w ∷ []) e o
leads-more states w e o is = grind (arith, get_more {K = Value})

-- the rows determine the targets
module _ {states : List Value} {rows : List ℕ} {target : Value → Option ℕ → Option Value}
    (r : AreRows states rows target) where
  target_is : (v : Value) (u : Option ℕ) → target_in states rows v u ≡ target v u
  target_is v u = by_option (index_in states v)
      (λ e. grind (arith, there states v, none_passes (same v) states 0 e, r.others v u))
      (λ p e. let at = index_is states v p e in
      grind (arith, r.others v u, leads-state states (entry_at rows p u) (target v u), r.entries p v u))

  pub rows-store : IsStored states rows
  rows-store = let e : target ≡ target_in states rows = λ i. λ v u. sym (target_is v u) i in
      rw (← e) r

  pub table-is : table_in states rows ≡ record { states = states; target = target }
  table-is = λ i. record { states = states; target = λ v u. target_is v u i }

  -- the entry of a unit, read among those from its column on
  pub entry-read : (p : ℕ) (u : Option ℕ) {row k : ℕ} → is_unit u ≡ true → k ≡ column u → row ≡ p * 258 → (v : Value)
      → slice_get states p ≡ Some v → Leads states (slice_index (take (length rows - k) (drop k rows)) row) (target v u)
  entry-read p u {row} {k} unit k_is row_is v at =
      let inside = slice_get_within states p v at in
      let e : slice_index (take (length rows - k) (drop k rows)) row ≡ entry_at rows p u =
      grind (arith, places, column-lt u unit, r.size) in
      rw e (r.entries p v u at unit)

  -- one more state
  module _ {new : List ℕ} {len : ℕ} (n : ℕ) (w : Value) (absent : list_any (same w) states ≡ false)
      (tag : tag_in n ≡ tag_of w) (len_is : len ≡ length rows)
      (new_is : new ≡ take (len + 258) rows ++ replicate (len + 258 - length rows) 1) where
    pub rows-push : AreRows (states ++ w ∷ []) (slice_set new (len + 257) n) target
    rows-push = record {
      size = grind (arith, places, length-set new (len + 257) n, r.size);
      apart = apart-push states w r.apart absent;
      entries = λ p v u at unit. by_cases (get_push states w p v at)
          (λ h. let inside = slice_get_within states p v h in
          let e : entry_at (slice_set new (len + 257) n) p u ≡ entry_at rows p u =
          grind (arith, places, column-lt u unit, r.size) in
          rw e (leads-more states w _ _ (r.entries p v u h unit)))
          (λ h. let e : entry_at (slice_set new (len + 257) n) p u ≡ 1 =
          grind (arith, places, column-lt u unit, r.size) in
          rw (h.1, r.others w u (λ q at_q _. not_both (there states w q at_q) absent)) e);
      others = λ v u never. r.others v u (λ p at unit. never p (get_more states (w ∷ []) p v at) unit);
      tags = λ p v at. let h = get_push states w p v at in
          grind (arith, places, get_or-set_at {X = ℕ}, slice_get_within states p v, r.tags p v, r.size);
    }

  -- one more transition, between states that are there
  module _ (s t : ℕ) (v w : Value) (u : Option ℕ) (at_s : slice_get states s ≡ Some v)
      (at_t : slice_get states t ≡ Some w) (unit : is_unit u ≡ true) where
    abbrev written : List ℕ
    written = slice_set rows (s * 258 + column u) (t * 258)

    pub rows-set : AreRows states written (with_target (shares None u) target v w)
    rows-set = let inside = slice_get_within states s v at_s in record {
      size = length-set rows (s * 258 + column u) (t * 258) ∙ r.size;
      apart = r.apart;
      entries = λ p x y at unit_y. with_target-by (shares None u) target v w x y
          (λ o. Leads states (entry_at written p y) o)
          (λ (x_is, over). let y_is = (Decides-unit y u).0 over in
          let p_is = r.apart p s v (rw x_is at at) at_s in
          (t, grind (arith, places, get_or-set_at {X = ℕ}, r.size, column-lt u unit), at_t))
          (λ none. let no : (x ≡ v) × (y ≡ u) → ⊥ = λ (x_is, y_is). none (x_is, (Decides-unit y u).1 y_is) in
          let e : entry_at written p y ≡ entry_at rows p y = grind (
            arith,
            places,
            get_or-set_at {X = ℕ},
            column-lt u unit,
            column-lt y unit_y,
            column_once y u unit_y unit,
            no,
          ) in
          rw e (r.entries p x y at unit_y));
      others = λ x y never. with_target-by (shares None u) target v w x y (λ o. o ≡ None)
          (λ (x_is, over). absurd (never s (rw x_is at_s) (rw ((Decides-unit y u).0 over) unit)))
          (λ _. r.others x y never);
      tags = λ p x at. grind (arith, places, get_or-set_at {X = ℕ}, column-lt u unit, r.tags p x at);
    }

-- what is stored after a state more
pub pushed : {states : List Value} {rows : List ℕ} (new : List ℕ) (len n : ℕ) (w : Value) → IsStored states rows
    → list_any (same w) states ≡ false → tag_in n ≡ tag_of w → len ≡ length rows
    → new ≡ take (len + 258) rows ++ replicate (len + 258 - length rows) 1
    → IsStored (states ++ w ∷ []) (slice_set new (len + 257) n)
    × (table_in (states ++ w ∷ []) (slice_set new (len + 257) n) ≡ with_state (table_in states rows) w)
pushed {states} {rows} new len n w is absent tag len_is new_is =
    let r = rows-push is n w absent tag len_is new_is in (rows-store r, table-is r ∙ rw absent)
