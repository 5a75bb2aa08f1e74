-- What functions that change a table leave, and what ids and cursors are in it.
-- Main statements: transitions-kept, source_there, index_before, interned-failed, kept-failed, kept-alone, kept-none.
-- Used by: the functions of `table.rt`.
-- Idea: interning adds one state at most, at the end, so ids stay; then writes to the rows add the transitions.
use Rattle.determinize_table.proofs.Common.{[], ap, arith, Bool, by_cases, dead, empty, false, get_or_from_slice_get}
use Rattle.determinize_table.proofs.Common.{inl, inr, IsAt, IsInterned, IsKept, IsWritten, length, List, list_any}
use Rattle.determinize_table.proofs.Common.{Ok, Option, refl, same, slice_get, slice_get-get_or, slice_get_within}
use Rattle.determinize_table.proofs.Common.{Some, StoredTable, sym, Table, table_of, true, Value, with_state}
use Rattle.determinize_table.proofs.Common.{with_target, with_transition}
use Rattle.determinize_table.proofs.Common.{with_value, ℕ, ◌<◌, ◌∙◌, ◌≡◌}
use Rattle.std.proofs.lemmas.Result.{on_err_weaker, on_ok_weaker}
use Rattle.std.specs.Prelude.{Err, nat_le, Result}
use Rattle.determinize_table.specs.Cursors.{IsIndexBefore}
use Rattle.determinize_table.specs.Rows.{IsEmpty, StartsStay}
use Rattle.determinize_table.specs.Table.{fits, keep}
use Rattle.determinize_table.specs.declared.table.Cursor.{Cursor}
use Rattle.determinize_table.specs.declared.table.Cursor.TheVariants.{Cached, Uncached}
use Rattle.determinize_engine.specs.States.{IsIndex}
use Rattle.determinize_engine.proofs.Places.{not_none, same-or, there}
use Rattle.determinize_table.proofs.Values.{any_with, get_with, length_with}

-- the values at ids, and how many there are with one more
pub ruleset counting = (there, slice_get-get_or, same-or, length_with, any_with)

pub ruleset caching = (there, slice_get-get_or, same-or, length_with, any_with, get_with, get_or_from_slice_get)

-- a cursor at an id of a state
pub at_id : {A : Type 0} (states : List Value) (id : ℕ) (v : Value) → slice_get states id ≡ Some v
    → IsAt {A = A} states (Cached id) v
at_id states id v at = grind (arith, slice_get_within {A = Value}, get_or_from_slice_get {X = Value})

-- what is left if a call fails: the table as it was, or the empty table
pub interned-failed : {E : Type 0} {old new : StoredTable} {v : Value} {e : E} → new ≡ old
    → IsInterned {E = E} old v (Err e) new
interned-failed same = rw same record { id = tt; table = tt; starts = refl; err = refl }

pub kept-failed : {A E : Type 0} {old new : StoredTable} {kept : Table} {w : Value} {e : E} → new.starts ≡ old.starts
    → table_of new ≡ table_of old → IsKept {A = A} {E = E} old kept w (Err e) new
kept-failed starts same = record {
  at = tt;
  table = tt;
  starts = λ i k kept. (rw starts at kept, λ x at. rw (ap (λ (x : Table). x.states) same) at);
  failed = inr same;
}

-- a table that was cleared
no_starts : (old : StoredTable) {mid : StoredTable} → IsEmpty mid → StartsStay old mid
no_starts old cleared i k kept = not_none (sym kept ∙ cleared.starts i)

no_states : {mid : StoredTable} → IsEmpty mid → mid.states ≡ []
no_states cleared = ap (λ (x : Table). x.states) cleared.table

pub none_in : {mid : StoredTable} → IsEmpty mid → (v : Value) → list_any (same v) mid.states ≡ false
none_in cleared v = rw (no_states cleared) refl

pub kept-cleared : {A E : Type 0} {old mid : StoredTable} {kept : Table} {w : Value} {e : E} → IsEmpty mid
    → IsKept {A = A} {E = E} old kept w (Err e) mid
kept-cleared {old = old} cleared =
    record { at = tt; table = tt; starts = no_starts old cleared; failed = inl cleared.table }

-- the transitions do not fit: they are kept in an empty table, or do not fit there either
module _ {old mid : StoredTable} (cleared : IsEmpty mid) (limit : ℕ) (over : Option ℕ → Bool) (v w x : Value)
    (full : fits limit (table_of old) v w ≡ false) (source : x ≡ v) where
  pub kept-alone : {A E : Type 0} {r : Result (Cursor A) E} {new : StoredTable}
      → nat_le (length (with_value (with_value mid.states x) w)) limit ≡ true
      → IsKept mid (with_transition over (table_of mid) x w) w r new
      → IsKept old (keep over limit (table_of old) v w) w r new
  kept-alone {r = r} fit kept =
      let alone : fits limit empty v w ≡ true = rw (no_states cleared, source) at fit in
      let is : with_transition over (table_of mid) x w ≡ with_transition over empty v w =
      ap (λ (t : Table). with_transition over t x w) cleared.table ∙ ap (λ x. with_transition over empty x w) source
      in record {
        at = kept.at;
        table = on_ok_weaker r (λ e. rw (full, alone) (e ∙ is)) kept.table;
        starts = λ i k is. not_none (sym (kept.starts i k is).0 ∙ cleared.starts i);
        failed = on_err_weaker r (λ f. by_cases f inl (λ e. inl (e ∙ cleared.table))) kept.failed;
      }

  pub kept-none : {A E : Type 0} → nat_le (length (with_value (with_value mid.states x) w)) limit ≡ false
      → IsKept {A = A} {E = E} old (keep over limit (table_of old) v w) w (Ok (Uncached w)) mid
  kept-none fit =
      let alone : fits limit empty v w ≡ false = rw (no_states cleared, source) at fit in record {
        at = record { cursor_is = none_in cleared w; value = refl };
        table = rw (full, alone) cleared.table;
        starts = no_starts old cleared;
        failed = tt;
      }

-- the source of a transition is interned
module _ {E : Type 0} {old mid : StoredTable} {v : Value} {s : ℕ} (first : IsInterned {E = E} old v (Ok s) mid) where
  states_with : mid.states ≡ with_value old.states v
  states_with = ap (λ (x : Table). x.states) first.table

  pub source_inside : s < length mid.states
  source_inside = slice_get_within mid.states s v first.id

  -- a value that was looked up before
  pub index_before : (w : Value) (found : Option ℕ) → IsIndex old.states w found → IsIndexBefore mid.states s w found
  index_before w found is =
      let same_source = get_or_from_slice_get mid.states s v dead first.id in
      grind (arith, any_with old.states v w, get_with old.states v w, states_with)

  -- the target is interned, too
  module _ {next : StoredTable} {w : Value} {t : ℕ} (second : IsInterned {E = E} mid w (Ok t) next) where
    states_next : next.states ≡ with_value mid.states w
    states_next = ap (λ (x : Table). x.states) second.table

    source_at : slice_get next.states s ≡ Some v
    source_at = rw states_next (get_with mid.states w v s first.id)

    pub source_there : s < length next.states
    source_there = slice_get_within next.states s v source_at

    pub target_there : t < length next.states
    target_there = slice_get_within next.states t w second.id

    -- writing transitions between the two keeps them
    pub transitions-kept : {A : Type 0} {over : Option ℕ → Bool} {new : StoredTable} → IsWritten over next s t new
        → IsKept {A = A} {E = E} old (with_transition over (table_of old) v w) w (Ok (Cached t)) new
    transitions-kept {over = over} {new} wrote = record {
      at = at_id new.states t w (rw wrote.states second.id);
      table = wrote.table v w source_at second.id
          ∙ ap (λ (x : Table). record { states = x.states; target = with_target over x.target v w })
          (second.table ∙ ap (λ (x : Table). with_state x w) first.table);
      starts = λ i k kept. (
        rw (wrote.starts, second.starts, first.starts) at kept,
        λ x at. rw (wrote.states, states_next, states_with)
            (get_with (with_value old.states v) w x k (get_with old.states v x k at)),
      );
      failed = tt;
    }
