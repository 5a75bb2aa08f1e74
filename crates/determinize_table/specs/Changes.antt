-- What functions that change a transition table leave and return.
use Rattle.std.specs.Prelude.{◌≡◌, ℕ, ◌⊎◌, Bool, IfOk, OnErr, OnOk, Option, Result, Some, slice_get}
use Rattle.determinize_core.specs.Value.{Value}
use Rattle.determinize_table.specs.declared.table.Cursor.{Cursor}
use Rattle.determinize_table.specs.Cursors.{IsAt}
use Rattle.determinize_table.specs.Rows.{StartsStay, StoredTable, table_of, with_state}
use Rattle.determinize_table.specs.Table.{Table, empty, with_target}

-- the state is cached at the id that is returned, or the table is as it was
pub record IsInterned {E : Type 0} (old : StoredTable) (v : Value) (result : Result ℕ E)
    (new : StoredTable) : Type 0 where
  pub id : IfOk result (λ id. slice_get new.states id ≡ Some v)
  pub table : OnOk result (table_of new ≡ with_state (table_of old) v)
  pub starts : new.starts ≡ old.starts
  pub err : OnErr result (table_of new ≡ table_of old)

-- the table is this one, and the cursor that is returned is at this value in it; or the table is
-- empty or as it was
pub record IsKept {A E : Type 0} (old : StoredTable) (kept : Table) (v : Value)
    (result : Result (Cursor A) E) (new : StoredTable) : Type 0 where
  pub at : IfOk result (λ next. IsAt new.states next v)
  pub table : OnOk result (table_of new ≡ kept)
  pub starts : StartsStay old new
  pub failed : OnErr result ((table_of new ≡ empty) ⊎ (table_of new ≡ table_of old))

-- the transitions between the states at two ids over some units are cached, too
pub record IsWritten (over : Option ℕ → Bool) (old : StoredTable) (source target : ℕ)
    (new : StoredTable) : Type 0 where
  pub states : new.states ≡ old.states
  pub starts : new.starts ≡ old.starts
  pub table : (v w : Value) → slice_get old.states source ≡ Some v
      → slice_get old.states target ≡ Some w
      → table_of new ≡ record {
        states = old.states;
        target = with_target over (table_of old).target v w;
      }
