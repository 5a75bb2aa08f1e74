-- The names that the proofs of this crate have in common: of std, of the definitions, and of the crates below.
pub use Rattle.determinize_core.proofs.Common.{Accepts, add-one, after_at, All-cons, All-nil, ap, append-nil}
pub use Rattle.determinize_core.proofs.Common.{append_assoc, arith, Asked, Assertion, Before, before_at, between, Bool}
pub use Rattle.determinize_core.proofs.Common.{by_cases, by_option, by_test, choices, cond, Contains, drop, ended_at}
pub use Rattle.determinize_core.proofs.Common.{eq-eqb, false, false≢true, HalfMatch, IfOk-weaker, IfSome, inl, inr}
pub use Rattle.determinize_core.proofs.Common.{is_capture, is_done, is_match, is_reopened, IsAccepted, IsPath}
pub use Rattle.determinize_core.proofs.Common.{last_match, LeftmostFirst, length, length-append, length-map}
pub use Rattle.determinize_core.proofs.Common.{length-take, List, map, map-append, min, nat_lt, nat_tests, Nfa, None}
pub use Rattle.determinize_core.proofs.Common.{Option, option_map, option_or, part_read, pattern_in, pattern_of}
pub use Rattle.determinize_core.proofs.Common.{patterns_of, patterns_read, refl, Result, rules, slice_get}
pub use Rattle.determinize_core.proofs.Common.{slice_get-get_or, slice_get_past, Some, some_injective, start_value, suc}
pub use Rattle.determinize_core.proofs.Common.{sym, take_all, take_at, Text, true, working_list, zero, [], ℕ, ◌*◌, ◌++◌}
pub use Rattle.determinize_core.proofs.Common.{◌+◌, ◌-◌, ◌<◌, ◌==◌, ◌∙◌, ◌∷◌, ◌≡◌, ◌≤◌, ◌⊎◌}
unfoldable pub use Rattle.determinize_core.proofs.Common.{chain, reach, step}
pub use Rattle.determinize_below.specs.Edges.{is_match_node, tests_capture}
pub use Rattle.determinize_below.specs.declared.search.Anchored.TheVariants.{No, Pattern, Yes}
pub use Rattle.determinize_below.specs.declared.search.Match.{Match}
pub use Rattle.determinize_core.proofs.walk.Farthest.{no_run_leaves_the_text}
pub use Rattle.determinize_engine.proofs.SearchMatches.{preferred}
pub use Rattle.determinize_engine.specs.Scans.{IsScan, IsSettled, Scanned}
pub use Rattle.determinize_engine.specs.Searches.{has_start, HasMatch, in_haystack, IsSearchResult, start_for, text_of}
unfoldable pub use Rattle.determinize_engine.specs.Searches.{last_in}
pub use Rattle.determinize_find.specs.Certain.{certain_after, certain_match, IsUnsettled}
pub use Rattle.determinize_find.specs.Laws.{EachBusyHasBegun, EachCertainIsPreferred, EachIdleIsFresh}
pub use Rattle.determinize_find.specs.Laws.{EachInputHasMatches, EachStartIsCovered, end_of}
pub use Rattle.determinize_find.specs.LeftmostIn.{is_anchored, IsLeftmostIn, latest, moved}
pub use Rattle.determinize_find.specs.Matches.{AreApart, AreMatches, BeginsAt, Covers, from, is_touching, IsEmptyAt}
pub use Rattle.determinize_find.specs.Matches.{IsNext, IsTaken, touches}
pub use Rattle.determinize_find.specs.Private.Begins.{IsBeginOf, IsEnded}
pub use Rattle.determinize_find.specs.Private.Left.{left}
pub use Rattle.determinize_find.specs.Private.Windows.{end_before, HasMoved, IsCertain, IsFresh, with_bytes, with_scan}
pub use Rattle.determinize_find.specs.Private.Windows.{without_first}
pub use Rattle.determinize_find.specs.Streams.{before, IsEndScan, IsFed, IsFinished, IsFoundInBlock, IsFrontFed, IsKept}
pub use Rattle.determinize_find.specs.Streams.{IsPartFed, IsSearching, IsStream, KeepsFew, KeptFewAt, KeptFewInBlocks}
pub use Rattle.determinize_find.specs.Streams.{left_in, place, Streamed, whole}
pub use Rattle.determinize_lazy.proofs.steps.Rule.{of_err}
pub use Rattle.determinize_nfa.proofs.prefixes.AfterPrefix.{none_leaves, parted, pass_all, shape, stays_out, u_not_a}
pub use Rattle.determinize_nfa.proofs.prefixes.AfterPrefix.{u_not_x, unshape}
pub use Rattle.determinize_nfa.proofs.prefixes.Skips.{pass, pass_first, skip, skip_before, skip_same}
pub use Rattle.determinize_nfa.proofs.runs.Choices.{choice_cases, choice_later, choices_under, true_at, under_later}
pub use Rattle.determinize_nfa.proofs.runs.Mirrors.{or_some, slice_get-take}
pub use Rattle.determinize_nfa.proofs.runs.Shifts.{each_run_moves, each_run_reads_forward, slice_get-drop}
pub use Rattle.determinize_nfa.specs.Leftmost.{IsLeftmost, IsLeftmostMatch, NothingFrom}
pub use Rattle.determinize_nfa.specs.Prefix.{HasPrefix, HasPrefixApart, leads_to}
pub use Rattle.determinize_nfa.specs.Runs.{AcceptsFrom, since}
pub use Rattle.determinize_start.specs.StartKinds.{byte_before}
pub use Rattle.ordered_reach.proofs.lists.Lexicographic.{Before-asym, Before-trans, same_least}
pub use Rattle.std.proofs.lemmas.Bool.{cases_eq, cases_lt, cases_order, le-ltb, lt-ltb, ltb-false, ltb-true, ne_eqb}
pub use Rattle.std.proofs.lemmas.List.{drop-append-le, drop-drop, drop-take, drop_all, length-drop, nil_from_length}
pub use Rattle.std.proofs.lemmas.List.{take-append-le, take-take, take_rest}
pub use Rattle.std.proofs.lemmas.List.Elements.{All-append, All-drop, All-from_get_or, All-take}
pub use Rattle.std.proofs.lemmas.Option.{IfSome_then, none-some, slice_get_within}
pub use Rattle.std.specs.List.{slice_range}
pub use Rattle.std.specs.Prelude.{All, slice_index_or, take}
pub use Rattle.std.specs.Slice.Iter.{chunks_rest, chunks_size}
