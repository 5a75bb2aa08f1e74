-- The names that the proofs of this crate have in common: of std, of the definitions, and of the crates below.
pub use Rattle.determinize_core.proofs.Common.{Accepts, ap, append-nil, append_assoc, arith, Asked, Before, Bool}
pub use Rattle.determinize_core.proofs.Common.{by_cases, by_option, by_test, cond, Contains, Decides, drop, eq-eqb}
pub use Rattle.determinize_core.proofs.Common.{eqb-true, false, flat_map, get_or, get_or_from_slice_get, IfOk-weaker}
pub use Rattle.determinize_core.proofs.Common.{inl, inr, is_done, IsAccepted, IsBestRun, length, length-replicate, List}
pub use Rattle.determinize_core.proofs.Common.{ListsAccepted, map, map-append, nat_lt, nat_tests, Nfa, None, Option}
pub use Rattle.determinize_core.proofs.Common.{option_map, pattern_in, refl, replicate, Result, rules, slice_get-get_or}
pub use Rattle.determinize_core.proofs.Common.{slice_get-map, Some, suc, sym, take, take_all, take_more, Text, true}
pub use Rattle.determinize_core.proofs.Common.{true≢false, zero, [], ℕ, ◌*◌, ◌++◌, ◌+◌, ◌-◌, ◌<◌, ◌||◌, ◌∙◌, ◌∷◌, ◌≡◌}
pub use Rattle.determinize_core.proofs.Common.{◌≤◌}
pub use Rattle.std.proofs.Common.{All, Bor, filter, IfOk, IsCharBoundary, mul-le-mul_right, of_calls, slice_index_or}
pub use Rattle.std.proofs.Common.{slice_range, ◌↔◌}
pub use Rattle.std.proofs.lemmas.Bool.{cases_lt, cases_order, cond_both}
pub use Rattle.std.proofs.lemmas.Fn.{filter_same, FoldsTo-push}
pub use Rattle.std.proofs.lemmas.List.{drop_all, take-map, take_rest}
pub use Rattle.std.proofs.lemmas.Option.{IfSome_then, slice_get_cases}
pub use Rattle.std.proofs.lemmas.Result.{on_err_weaker, on_ok_weaker}
pub use Rattle.std.specs.List.{FoldsTo}
pub use Rattle.determinize_below.proofs.Moved.{next_of, one_more}
pub use Rattle.determinize_below.specs.declared.search.Anchored.{Anchored}
pub use Rattle.determinize_below.specs.declared.search.Anchored.TheVariants.{No, Pattern, Yes}
pub use Rattle.determinize_below.specs.declared.search.Match.{Match}
pub use Rattle.determinize_engine.specs.Searches.{has_start, start_for, text_of}
pub use Rattle.determinize_find.proofs.matches.OneList.{each_leftmost_in_is_one, each_matches_are_apart, length-range}
pub use Rattle.determinize_find.specs.Matches.{AreApart, AreMatches, AreMatchesBy, from, IsNextBy, IsTakenBy}
pub use Rattle.determinize_find.specs.Streams.{before, IsFed, IsFinished, IsFoundInBlock, IsFrontFed, IsStream}
pub use Rattle.determinize_find.specs.Streams.{KeepsFew, place, Streamed, whole}
pub use Rattle.determinize_nfa.specs.Prefix.{HasPrefix}
pub use Rattle.determinize_pattern.specs.Compiled.{IsNfaOf}
pub use Rattle.determinize_pattern.specs.LeftmostOf.{all_ends, IsLeftmostOf}
pub use Rattle.determinize_pattern.specs.Meaning.{Re}
pub use Rattle.determinize_pattern.specs.Patterns.{meaning}
pub use Rattle.determinize_regex.specs.Laws.{EachAnchoredListIsOf, EachLeftmostInIsOf, EachListIsOf, EachMatchesAreOf}
pub use Rattle.determinize_regex.specs.Laws.{EachReplacedIsJoined}
pub use Rattle.determinize_regex.specs.Parts.{IsReplacedBy, parts, replaced, replaced_each}
pub use Rattle.determinize_regex.specs.PatternMatches.{AreMatchesOf, IsLeftmostOfIn, latest_in}
pub use Rattle.determinize_regex.specs.Private.Searched.{value_of}
pub use Rattle.determinize_regex.specs.Regexes.{AreAll, IsRegex, meanings, RegexValue}
pub use Rattle.determinize_regex.specs.Spelled.{AreSpelled, IsRejected}
