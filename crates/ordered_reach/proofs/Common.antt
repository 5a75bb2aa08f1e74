-- The names that the proofs of this crate have in common: of std, of the definitions, and of the crates below.
pub use Rattle.std.proofs.Common.{◌&&◌, ◌+◌, ◌++◌, ◌-◌, ◌<◌, [], ap, append_assoc, arith, Bool, cond, false, inl, inr}
pub use Rattle.std.proofs.Common.{length, length-append, List, map, None, not, Option, refl, Some, subst, suc, sym}
pub use Rattle.std.proofs.Common.{take, true, zero, ◌||◌, ℕ, ◌∙◌, ◌∷◌, ◌≡◌, ◌≤◌, ◌⊎◌}
pub use Rattle.std.proofs.lemmas.Bool.{eqb-true, false≢true, or_left, or_right, true≢false}
pub use Rattle.std.proofs.lemmas.List.{append-nil, map-append}
pub use Rattle.std.proofs.lemmas.List.Concat.{flat_map-append}
pub use Rattle.std.proofs.lemmas.List.Elements.{All-cons, All-nil, filter-append}
pub use Rattle.std.proofs.lemmas.List.Folds.{find-append, flat_map-map}
pub use Rattle.std.proofs.lemmas.Option.{get_or_from_slice_get, slice_get-get_or, slice_get-map, slice_get_within}
pub use Rattle.std.specs.Bool.{Decides}
pub use Rattle.std.specs.List.{AllPairs, filter, find, flat_map, list_any}
pub use Rattle.std.specs.Option.{option_map, option_or}
pub use Rattle.std.specs.Prelude.{◌==◌, All, Contains, nat_eq, nat_lt, slice_get, slice_index_or}
pub use mathlib.Core.Path.{fun_ext}
pub use Rattle.ordered_reach.proofs.Cases.{by_cases, by_test, or_false, or_false_left, or_false_right, some_injective}
pub use Rattle.ordered_reach.specs.Paths.{Before, IsInOrderOfReach, IsLeastPath, IsListedInTurn, IsPath, IsPathFrom}
pub use Rattle.ordered_reach.specs.Reach.{edge_count, ends, fresh, joined, LeadsBelow, member, nodes_below, none_held}
pub use Rattle.ordered_reach.specs.Reach.{ordered, with_node}
pub use Rattle.ordered_reach.specs.Runs.{before, IsBeginning, IsLeastRun, known_at, ListsReached, placed, run_edges}
pub use Rattle.ordered_reach.specs.Runs.{without}
pub use Rattle.ordered_reach.specs.StackSearch.{closure, search_tries}
