-- The names that the proofs of this crate and of `determinize_dense` have in common: of std, of the definitions, and of
-- the crates below.
pub use Rattle.determinize_below.proofs.nfas.SoundNfa.{accepted_sound, IsSound}
pub use Rattle.determinize_below.specs.Captures.{capture_next, followed}
pub use Rattle.determinize_below.specs.Edges.{edges, is_capture, is_match, IsTested, pattern_in, pattern_of}
pub use Rattle.determinize_below.specs.Edges.{patterns_of, target}
unfoldable pub use Rattle.determinize_below.specs.Edges.{reach, reach_past}
pub use Rattle.determinize_below.specs.Look.{each_look}
unfoldable pub use Rattle.determinize_below.specs.Look.{has}
pub use Rattle.determinize_below.specs.Members.{has_id, Members}
pub use Rattle.determinize_below.specs.Nfa.{AllResolve, IsAccepted}
pub use Rattle.determinize_below.specs.Positions.{byte_edges, true_edges, truth}
pub use Rattle.determinize_below.specs.Reached.{IsReached, known_edges}
pub use Rattle.determinize_below.specs.Search.{Asked, continues, is_done}
pub use Rattle.determinize_below.specs.Semantics.{Accepts, after_at, before_at, between, Capture, choices, Fail}
pub use Rattle.determinize_below.specs.Semantics.{IsBestRun, IsPreferredRun, Match, Nfa, Node, state_at, Text}
pub use Rattle.determinize_below.specs.Unit.{byte_of}
pub use Rattle.determinize_below.specs.declared.look.Look.{Look as Assertion}
pub use Rattle.determinize_below.specs.declared.search.HalfMatch.{HalfMatch}
pub use Rattle.determinize_below.specs.declared.search.MatchKind.{MatchKind}
pub use Rattle.determinize_below.specs.declared.search.MatchKind.TheVariants.{All, LeftmostFirst}
pub use Rattle.determinize_core.specs.Chain.{future, units, value_after}
unfoldable pub use Rattle.determinize_core.specs.Chain.{chain}
pub use Rattle.determinize_core.specs.LastMatch.{ended_at, IsFarthestMatch, IsPreferredMatch, last_ended, last_match}
pub use Rattle.determinize_core.specs.LastMatch.{lists_of}
pub use Rattle.determinize_core.specs.Private.Changes.{with_patterns}
pub use Rattle.determinize_core.specs.Private.Reading.{distinct, IsReopened, IsListRead}
unfoldable pub use Rattle.determinize_core.specs.Private.Search.{tries_left}
pub use Rattle.determinize_core.specs.Step.{begun, distinct_states, is_reopened, opened_by, part_read, patterns_read}
pub use Rattle.determinize_core.specs.Step.{start_value, targets, working_list}
unfoldable pub use Rattle.determinize_core.specs.Step.{step}
pub use Rattle.determinize_core.specs.Stepper.{StepperValue}
pub use Rattle.determinize_core.specs.Tries.{edges_in_all, tries_again, tries_of}
unfoldable pub use Rattle.determinize_core.specs.Tries.{tries}
pub use Rattle.determinize_core.specs.Walk.{IsLeftmostWalk, IsWalkOfAll, ListsAccepted}
unfoldable pub use Rattle.determinize_start.specs.LookTables.{from_word_after, half_crlf_after, have_after}
pub use Rattle.determinize_start.specs.LookTables.{have_at_start, tables_of}
pub use Rattle.determinize_state.specs.Equality.{same}
pub use Rattle.determinize_state.specs.Recording.{added, added_one, needs, recorded}
pub use Rattle.determinize_state.specs.Value.{dead, is_nonempty, Value}
pub use Rattle.ordered_reach.proofs.Cases.{by_cases, by_option, by_test, or_false_right, some_injective}
pub use Rattle.ordered_reach.proofs.graph.FiniteGraphs.{same_decides}
pub use Rattle.ordered_reach.proofs.lists.Elements.{All-from_member}
pub use Rattle.ordered_reach.specs.Paths.{Before, IsPath}
pub use Rattle.ordered_reach.specs.Reach.{edge_count, ends, fresh, joined, member, none_held, ordered, with_node}
pub use Rattle.ordered_reach.specs.Runs.{before, IsBeginning, IsLeastRun, placed, without}
pub use Rattle.std.proofs.Common.{[], add-one, ap, append_assoc, arith, Bool, drop, false, fold, get_or}
pub use Rattle.std.proofs.Common.{get_or-set_other, get_or-set_same, if◌then◌else◌, inl, inr, length, length-append}
pub use Rattle.std.proofs.Common.{List, map, nat_eq, None, not, Option, refl, replicate, rules, Some, subst, suc, sym}
pub use Rattle.std.proofs.Common.{take, true, zero, ℕ, ◌&&◌, ◌*◌, ◌++◌, ◌+◌, ◌-◌, ◌<◌, ◌||◌, ◌∙◌, ◌∷◌, ◌≡◌, ◌≤◌, ◌⊎◌}
pub use Rattle.std.proofs.lemmas.Bool.{eq-eqb, eqb-true, false≢true, or_left, true≢false}
pub use Rattle.std.proofs.lemmas.Bool.Decides.{nat_tests}
pub use Rattle.std.proofs.lemmas.List.{append-nil, get_or-replicate, get_or-reverse, get_or_append_left, length-map}
pub use Rattle.std.proofs.lemmas.List.{length-replicate, length-reverse, length-set, length-take, length-take-le}
pub use Rattle.std.proofs.lemmas.List.{length_push, map-append, take-append-drop, take_all, take_at, take_more}
pub use Rattle.std.proofs.lemmas.List.Concat.{flat_map-append}
pub use Rattle.std.proofs.lemmas.List.Elements.{All-cons, All-nil, All-rest}
pub use Rattle.std.proofs.lemmas.Option.{get_or_from_slice_get, slice_get-get_or, slice_get-map, slice_get_past}
pub use Rattle.std.proofs.lemmas.Option.{slice_get_within}
pub use Rattle.std.proofs.lemmas.Result.{IfOk-weaker}
pub use Rattle.std.specs.Cmp.{IsEquivalence, on_equiv}
pub use Rattle.std.specs.HashMap.{get}
pub use Rattle.std.specs.List.{flat_map, list_any, range_with_len}
pub use Rattle.std.specs.Map.{lookup}
pub use Rattle.std.specs.Option.{IfSome, is_some, option_or, option_to_list}
pub use Rattle.std.specs.Prelude.{cond, Contains, Decides, Err, IfNone, min, nat_lt, Ok, option_map, Result, slice_get}
pub use Rattle.std.specs.Prelude.{slice_index, slice_set, unwrap_or, ◌==◌}
pub use mathlib.Core.Path.{fun_ext}
