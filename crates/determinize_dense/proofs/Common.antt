-- The names that the proofs of this crate have in common, besides those of `determinize_core`.
pub use Rattle.std.specs.Prelude.{All, bytes_eq, slice_index_or, sum_by, ◌%◌, ◌/◌, ◌^◌}
unfoldable pub use Rattle.determinize_core.specs.Step.{step}
pub use Rattle.determinize_below.specs.ByteClasses.{AreClasses, AreClassesOf, Classes, first_of}
pub use Rattle.determinize_below.specs.Truth.{IsUnit}
pub use Rattle.determinize_start.specs.StartKinds.{start_kind_of}
pub use Rattle.determinize_start.specs.StartSlots.{slot_number, slot_of}
pub use Rattle.determinize_below.specs.Search.{is_anchored}
pub use Rattle.determinize_dense.specs.Dfa.{HasMoreStates, HasStates, IsDfaOf, IsReachedValue, start_in}
pub use Rattle.determinize_dense.specs.Dfa.{value_from}
pub use Rattle.determinize_dense.specs.Private.Building.{AreStarts, Building, columns_of, HasChanges, HasIds, IsBase}
pub use Rattle.determinize_dense.specs.Private.Building.{IsBuilding, IsNextRow, IsStart, Stays, unit_at}
pub use Rattle.determinize_dense.specs.Private.Rows.{dfa_value, IsDfa, IsFilled, IsInverse, IsOffset, IsRowAt, IsStored}
pub use Rattle.determinize_dense.specs.Private.Rows.{offset_of, rows_at}
pub use Rattle.determinize_dense.specs.Private.Searching.{FindsFrom, found_from, HasCome, HasReadUpTo, IsFound}
pub use Rattle.determinize_dense.specs.Private.Searching.{IsMatch, IsRead}
pub use Rattle.determinize_dense.specs.Private.Searching.{match_so_far, row_at, StaysOver}
pub use Rattle.determinize_dense.specs.Table.{column_of, DfaValue, patterns_at, row_after, row_over, start_row, Table}
pub use Rattle.determinize_below.specs.declared.primitives.TheConstants.{MAX_ID}
pub use Rattle.determinize_below.specs.declared.search.Anchored.{Anchored}
pub use Rattle.determinize_core.proofs.Common.{add-one, after_at, AllResolve, ap, append-nil, append_assoc}
pub use Rattle.determinize_core.proofs.Common.{arith, Asked, before, between, Bool, by_cases, by_test, byte_of}
pub use Rattle.determinize_core.proofs.Common.{Contains, dead, Decides, distinct, drop, ended_at, eq-eqb, eqb-true, Err}
pub use Rattle.determinize_core.proofs.Common.{false, false≢true, flat_map-append, fun_ext, future, get, get_or}
pub use Rattle.determinize_core.proofs.Common.{get_or-replicate, get_or-set_other, get_or-set_same, get_or_append_left}
pub use Rattle.determinize_core.proofs.Common.{get_or_from_slice_get, HalfMatch, has, have_after, IfOk-weaker, IfSome}
pub use Rattle.determinize_core.proofs.Common.{inl, inr, is_done, is_match, is_nonempty, is_some, IsAccepted}
pub use Rattle.determinize_core.proofs.Common.{IsWalkOfAll, last_match, LeftmostFirst, length}
pub use Rattle.determinize_core.proofs.Common.{length-append, length-map, length-set, List, list_any, lists_of, map}
pub use Rattle.determinize_core.proofs.Common.{MatchKind, min, nat_lt, Nfa, None, none_held, Ok, Option}
pub use Rattle.determinize_core.proofs.Common.{option_or, part_read, patterns_of, refl, replicate, Result, rules, same}
pub use Rattle.determinize_core.proofs.Common.{same_decides, slice_get, slice_get-get_or, slice_get-map}
pub use Rattle.determinize_core.proofs.Common.{slice_get_within, slice_index, slice_set, Some, start_value}
pub use Rattle.determinize_core.proofs.Common.{subst, suc, sym, tables_of, take, take_all, take_more}
pub use Rattle.determinize_core.proofs.Common.{target, Text, true, true≢false, units, Value, value_after, without}
pub use Rattle.determinize_core.proofs.Common.{working_list, zero, [], ℕ, ◌*◌, ◌++◌, ◌+◌, ◌-◌, ◌<◌, ◌∙◌, ◌∷◌, ◌≡◌, ◌≤◌}
pub use Rattle.determinize_core.proofs.Common.{◌⊎◌}
pub use Rattle.determinize_core.proofs.walk.WalkLoops.{value_after-push}
pub use Rattle.determinize_core.specs.Alike.{NeedsTested}
pub use Rattle.determinize_core.specs.Walk.{last_listed, ListsAccepted}
pub use Rattle.determinize_dense.specs.Bytes.{bytes_of_words, ends_from}
pub use Rattle.determinize_dense.specs.Least.{AreApart, IsLeast, IsReachedRow}
pub use Rattle.determinize_dense.specs.Private.Minimizing.{AreDistances, AreDistancesSoFar, AreFirstAlike, AreFirsts}
pub use Rattle.determinize_dense.specs.Private.Minimizing.{AreMergedEntries, AreMergedLists, AreMergedRows}
pub use Rattle.determinize_dense.specs.Private.Minimizing.{AreMergedStarts, AreTargets, entry, IsDistanceSoFar}
pub use Rattle.determinize_dense.specs.Private.Minimizing.{IsFirstAlike, IsGrouping, IsMerged, IsPartition}
pub use Rattle.determinize_dense.specs.Private.Minimizing.{IsSettled, IsShort, IsSplitBy, ListsAfter}
pub use Rattle.determinize_dense.specs.Private.Order.{IsOrdered, IsRank, ListsNoneAbove}
pub use Rattle.determinize_dense.specs.Private.Partition.{AreBlocks, AreEqual, AreTogether, Blocks, IsByRank}
pub use Rattle.determinize_dense.specs.Private.Partition.{IsLastUpto, IsNumbered, IsOrdering, IsSplit, IsSplitting}
pub use Rattle.determinize_dense.specs.Private.Partition.{pair_of, same_pair, turn_of}
pub use Rattle.determinize_dense.specs.Reading.{IsDead, lists_along, ListsAlong}
pub use Rattle.determinize_dense.specs.declared.search.Reached.{Reached}
pub use Rattle.determinize_engine.proofs.TextUnits.{text_units}
pub use Rattle.determinize_engine.specs.States.{EachApart}
pub use Rattle.determinize_engine.proofs.Texts.{all_read, unit-here, unit-last, units_listed}
pub use Rattle.determinize_engine.specs.Searches.{start_for, text_of}
pub use Rattle.determinize_start.proofs.kinds.StartSlots.{one_slot, slot_number-below, slot_number-from}
pub use Rattle.std.proofs.lemmas.Bool.{cases_eq, cases_lt}
pub use Rattle.std.proofs.lemmas.Grind.{get_or-set_at, get_or_default_zero}
pub use Rattle.std.proofs.lemmas.List.{drop_all, drop_more, get_or-drop, get_or-map, get_or_push, length-drop}
pub use Rattle.std.proofs.lemmas.List.{length-replicate, length_push, map_more, map_push, take_rest}
pub use Rattle.std.proofs.lemmas.List.Elements.{All-append, All-cons, All-drop, All-from_get_or, All-head}
pub use Rattle.std.proofs.lemmas.List.Elements.{All-nil, All-push, All-tail, All-weaker, filter-append}
pub use Rattle.std.proofs.lemmas.List.Elements.{same_from_all_zip}
pub use Rattle.std.proofs.lemmas.List.FromFn.{length-map-range_with_len}
pub use Rattle.std.proofs.lemmas.Map.Made.{IsDistinct-from_AllPairs}
pub use Rattle.std.proofs.lemmas.Nat.{div-add-mod', div-mul-add, mod-mul-add, mul-add-lt, same_from_place}
pub use Rattle.std.specs.List.{AllZip, concat, IsDistinct, range_with_len}
pub use Rattle.determinize_core.proofs.walk.WalkOfRuns.{chain-first, chain_leftmost, chain_of_all}
pub use Rattle.determinize_core.specs.Private.Reading.{gives_nothing, roots_of}
pub use Rattle.std.proofs.Math.Nat.{add-zero, div-lt_iff_lt-mul, mod-lt, mul-add, mul-le-mul_left, mul-le-mul_right}
pub use Rattle.std.proofs.Math.Nat.{mul_assoc, mul_comm}
pub use Rattle.std.proofs.lemmas.Option.{IfSome_then, slice_get_read}
pub use Rattle.determinize_engine.proofs.Places.{apart-push, get_last, get_more, get_push, not_none, of_some}
pub use Rattle.determinize_engine.proofs.Places.{same_is, same_laws}
pub use Rattle.determinize_engine.specs.declared.state_table.TheConstants.{MAX_STATES}
pub use Rattle.std.proofs.lemmas.List.Sums.{sum_by-set, sum_by_more}
pub use Rattle.ordered_reach.proofs.lists.Pieces.{before-without, flat_map-without, flat_map_none, option_or-assoc}
pub use Rattle.ordered_reach.proofs.lists.Pieces.{option_or-None}
pub use Rattle.determinize_core.proofs.step.StepLaws.{dead_stays}
pub use Rattle.determinize_core.proofs.walk.UnitLists.{units_are}
pub use Rattle.determinize_dense.specs.Meaning.{EachTextIsListed, list_after}
pub use Rattle.determinize_engine.proofs.LastUnits.{step_over}
pub use Rattle.determinize_core.proofs.step.AlikeBytes.{each_class_steps, each_need_is_tested}
pub use Rattle.determinize_engine.proofs.Ranges.{is-result, match-decides, none-done, offset-within}
pub use Rattle.std.specs.HashMap.{get_by}
unfoldable pub use Rattle.determinize_core.proofs.Common.{chain}
