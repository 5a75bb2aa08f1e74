-- The names that the proofs of this crate have in common: of std, of the crates below, and of the definitions.
pub use Rattle.std.proofs.Common.{[], ap, arith, Bool, cond, drop, false, inl, inr, length, List, None, Option, refl}
pub use Rattle.std.proofs.Common.{replicate, rules, Some, suc, sym, take, true, ℕ, ◌&&◌, ◌*◌, ◌++◌, ◌+◌, ◌-◌, ◌/◌, ◌<◌}
pub use Rattle.std.proofs.Common.{◌||◌, ◌∙◌, ◌∷◌, ◌≡◌, ◌≢◌, ◌⊎◌}
pub use Rattle.std.proofs.lemmas.List.{length-set, length_push}
pub use Rattle.std.proofs.lemmas.Option.{get_or_from_slice_get, slice_get-get_or, slice_get_within}
pub use Rattle.std.proofs.lemmas.Map.Views.{list_any-from_Contains}
pub use Rattle.std.specs.List.{list_any, position_from}
pub use Rattle.std.specs.Prelude.{Contains, Decides, Ok, slice_get, slice_index, slice_set}
pub use Rattle.ordered_reach.proofs.Cases.{by_cases, by_option, by_test}
pub use Rattle.determinize_core.specs.Value.{dead, Value}
pub use Rattle.determinize_core.specs.Equality.{same}
pub use Rattle.determinize_engine.specs.States.{EachApart}
pub use Rattle.determinize_table.specs.Cursors.{IsAt}
pub use Rattle.determinize_table.specs.Rows.{AreRows, IsStored, Leads, StoredTable, table_of, with_state}
pub use Rattle.determinize_table.specs.Changes.{IsInterned, IsKept, IsWritten}
pub use Rattle.determinize_table.specs.Tags.{tag_in, tag_of}
pub use Rattle.determinize_table.specs.Stored.{column, entry_at, is_unit, state_at, table_in, target_in}
pub use Rattle.determinize_table.specs.Table.{empty, in_one_class, in_range, index_in, IsTable, same_unit, shares}
pub use Rattle.determinize_table.specs.Table.{Table, with_target, with_transition, with_value}
