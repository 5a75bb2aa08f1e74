-- The names that the proofs of this crate have in common: of std, of the definitions, and of the crates below.
pub use Rattle.determinize_core.proofs.Common.{[], accepted_sound, Accepts, add-one, after_at, All, All-cons, All-nil}
pub use Rattle.determinize_core.proofs.Common.{All-rest, AllResolve, ap, append-nil, append_assoc, arith, Asked}
pub use Rattle.determinize_core.proofs.Common.{Assertion, between, Bool, by_cases, by_test, cond, Contains, dead}
pub use Rattle.determinize_core.proofs.Common.{Decides, distinct_states, drop, edges, ended_at, ends, eqb-true, Err}
pub use Rattle.determinize_core.proofs.Common.{Fail, false, flat_map, fresh, future, get_or, get_or-set_other}
pub use Rattle.determinize_core.proofs.Common.{get_or-set_same, get_or_from_slice_get, HalfMatch, IfOk-weaker, IfSome}
pub use Rattle.determinize_core.proofs.Common.{inl, inr, is_capture, is_done, is_nonempty, is_reopened, is_some}
pub use Rattle.determinize_core.proofs.Common.{IsAccepted, IsFarthestMatch, joined, last_match, LeftmostFirst, length}
pub use Rattle.determinize_core.proofs.Common.{length-append, length-map, length-set, List, list_any, map, map-append}
pub use Rattle.determinize_core.proofs.Common.{MatchKind, member, nat_eq, nat_tests, Nfa, None, none_held, not, Ok}
pub use Rattle.determinize_core.proofs.Common.{opened_by, Option, option_map, option_or, option_to_list, pattern_of}
pub use Rattle.determinize_core.proofs.Common.{patterns_of, patterns_read, refl, Result, rules, same, same_decides}
pub use Rattle.determinize_core.proofs.Common.{slice_get, slice_get-get_or, slice_get_within, slice_set, Some}
pub use Rattle.determinize_core.proofs.Common.{start_value, subst, suc, sym, tables_of, take, take_all, take_more}
pub use Rattle.determinize_core.proofs.Common.{targets, Text, true, true≢false, units, Value, value_after, without}
pub use Rattle.determinize_core.proofs.Common.{working_list, zero, ℕ, ◌&&◌, ◌*◌, ◌++◌, ◌+◌, ◌-◌, ◌<◌, ◌∙◌, ◌∷◌, ◌≡◌}
pub use Rattle.determinize_core.proofs.Common.{◌≤◌, ◌⊎◌}
pub use Rattle.determinize_core.proofs.step.StepLaws.{dead_stays}
pub use Rattle.determinize_core.proofs.walk.LastMatches.{future_is, length-tail, tail}
pub use Rattle.determinize_engine.proofs.LastUnits.{last_match-within, step_over}
pub use Rattle.determinize_engine.proofs.Later.{last_from-first, last_from-next, last_from-over, later-within}
pub use Rattle.determinize_engine.proofs.Later.{none_left}
pub use Rattle.determinize_engine.proofs.Places.{not_none, of_some, same_laws}
pub use Rattle.determinize_engine.proofs.Ranges.{is-result, match-decides, none-done, offset-within}
pub use Rattle.determinize_engine.proofs.Scanning.{last-whole, scan-piece, settled}
pub use Rattle.determinize_engine.proofs.SearchMatches.{is-search}
pub use Rattle.determinize_engine.proofs.Texts.{all_read, unit-here, unit-last, units_listed}
pub use Rattle.determinize_engine.specs.Private.Later.{last_from}
pub use Rattle.determinize_engine.specs.Scans.{Scanned}
pub use Rattle.determinize_engine.specs.UnitsRead.{is_last, units_read}
pub use Rattle.determinize_lazy.specs.Cache.{after_step, after_walk, Cache, count_after, IsCutOff, LazyValue}
pub use Rattle.determinize_lazy.specs.Cache.{needs_tested, shared_by}
pub use Rattle.determinize_lazy.specs.Clauses.{AreClassesOf, AreMarked, AreSomeMarked, cache, cache_bytes, Classes}
pub use Rattle.determinize_lazy.specs.Clauses.{classes_from, cursor_value, EachWalkComputesFew, Grows, HasMatch}
pub use Rattle.determinize_lazy.specs.Clauses.{HasMatchOf, HasRead, HasSearched, HasSearchedIn, is_cached, IsCursor}
pub use Rattle.determinize_lazy.specs.Clauses.{IsSearch, IsWalkedTo, most_bytes, slot_number, start_for, step_of}
pub use Rattle.determinize_lazy.specs.Clauses.{text_of}
pub use Rattle.determinize_lazy.specs.Marks.{IsMarked}
pub use Rattle.determinize_lazy.specs.Plenty.{HasRoom, KeepsAll, missing, with_step, with_walk}
pub use Rattle.determinize_lazy.specs.Private.{AreStarts, cached_place, CachedPosition, ends_at, EndsAt, Fails}
pub use Rattle.determinize_lazy.specs.Private.{first_place, GoesTo, GoesToCached, HasCome, HasStopped, IsCacheAfter}
pub use Rattle.determinize_lazy.specs.Private.{IsCachedPosition, IsCutOffAt, IsFailedStep, IsFollowed, IsKnown, IsLazy}
pub use Rattle.determinize_lazy.specs.Private.{IsLeftBy, IsMarking, IsNext, IsOver, IsOverText, IsPieceRead, IsPosition}
pub use Rattle.determinize_lazy.specs.Private.{IsReady, IsSound, IsStateOf, IsStepped, IsWalking, later_by, listed}
pub use Rattle.determinize_lazy.specs.Private.{listed_from, listed_over, next_place, place, Place, Position, start_slot}
pub use Rattle.determinize_lazy.specs.Private.{viewed, with_cursor}
pub use Rattle.determinize_table.proofs.Common.{empty, in_one_class, IsAt, IsKept, IsTable, list_any-from_Contains}
pub use Rattle.determinize_table.proofs.Common.{same_unit, shares, StoredTable, Table, table_of, tag_in, tag_of}
pub use Rattle.determinize_table.proofs.Common.{with_transition, with_value}
pub use Rattle.determinize_table.proofs.Transitions.{empty-is, not_source, with_target-new, with_transition-is}
pub use Rattle.determinize_table.proofs.Values.{Decides-unit, has_new, length_with}
pub use Rattle.determinize_table.specs.Rows.{IsEmpty, IsTarget, StartsStay}
pub use Rattle.determinize_table.specs.Table.{fits, keep, with_values}
pub use Rattle.determinize_table.specs.Tags.{is_last_tag, match_of, match_reported, Tag}
pub use Rattle.determinize_table.specs.declared.table.Cursor.{Cursor}
pub use Rattle.determinize_table.specs.declared.table.Cursor.TheVariants.{Cached, Uncached}
pub use Rattle.ordered_reach.proofs.Cases.{or_false}
pub use Rattle.std.proofs.lemmas.List.{drop-drop, drop_all, drop_more, get_or_past}
pub use Rattle.std.proofs.lemmas.List.Elements.{All-contains, All-get_or, All-push, All-weaker, Contains-append_cases}
pub use Rattle.std.proofs.lemmas.List.Elements.{Contains-append_left, Contains-append_right}
pub use Rattle.std.proofs.lemmas.Result.{IfOk-from_err, on_err_weaker, on_ok_weaker}
pub use Rattle.std.specs.List.{count_by, sum_by}
pub use Rattle.std.specs.Option.{option_copied}
pub use Rattle.std.specs.Prelude.{All as Each, nat_le, OnErr, OnOk, slice_index_or, ◌↔◌}
pub use Rattle.std.specs.Result.{IsErr}
unfoldable pub use Rattle.determinize_core.proofs.Common.{chain, has, have_after, reach, step}
unfoldable pub use Rattle.determinize_start.specs.LookTables.{from_word_at_start, half_crlf_at_start, have_at_start}
