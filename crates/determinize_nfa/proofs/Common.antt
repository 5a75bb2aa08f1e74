-- The names that the proofs of this crate have in common: of std, of the definitions, and of the crates below.
pub use Rattle.std.proofs.Common.{Bool, List, None, Option, Some, [], ap, append-nil, append_assoc, arith, cond, drop}
pub use Rattle.std.proofs.Common.{false, get_or, inl, inr, length, map, not, refl, replicate, rules, set, subst, suc}
pub use Rattle.std.proofs.Common.{sym, take, true, zero, ℕ, ◌&&◌, ◌++◌, ◌+◌, ◌-◌, ◌<◌, ◌||◌, ◌∙◌, ◌∷◌, ◌≡◌, ◌≤◌, ◌⊎◌}
pub use Rattle.std.proofs.Math.Seq.{drop-cons}
pub use Rattle.std.proofs.lemmas.Bool.{and_parts, cases_lt, eq-eqb, eqb-true, false≢true, or_left, or_right}
pub use Rattle.std.proofs.lemmas.Bool.Decides.{nat_tests}
pub use Rattle.std.proofs.lemmas.Grind.{get_or_default_zero}
pub use Rattle.std.proofs.lemmas.List.{get_or-map, get_or-set_other, get_or_past, length-append, length-map}
pub use Rattle.std.proofs.lemmas.List.{length-replicate, length-set, map-append, map-set}
pub use Rattle.std.proofs.lemmas.List.Elements.{All-rest}
pub use Rattle.std.proofs.lemmas.Option.{get_or_from_slice_get, slice_get-get_or, slice_get_within}
pub use Rattle.std.proofs.lemmas.Result.{IfErr-weaker, IfOk-weaker, on_ok_weaker}
pub use Rattle.std.specs.Bool.{Decides}
pub use Rattle.std.specs.List.{IsDistinct, filter, flat_map, list_all, list_any}
pub use Rattle.std.specs.Option.{option_or}
pub use Rattle.std.specs.Prelude.{All, nat_eq, nat_lt, slice_get}
pub use Rattle.ordered_reach.proofs.Cases.{by_cases, by_option, by_test, some_injective}
pub use Rattle.ordered_reach.proofs.graph.VisitedNodes.{path_stays}
pub use Rattle.ordered_reach.proofs.lists.Elements.{All_at, In, In_append_cases, In_append_left, In_append_right}
pub use Rattle.ordered_reach.proofs.lists.Elements.{In_cases, In_flat_map_from, In_head, In_map, In_map_from, In_none}
pub use Rattle.ordered_reach.proofs.lists.Elements.{In_tail}
pub use Rattle.ordered_reach.proofs.runs.ByPosition.{same_pairs}
pub use Rattle.ordered_reach.specs.Paths.{IsPath}
pub use Rattle.ordered_reach.specs.Runs.{placed}
pub use Rattle.determinize_below.proofs.Exits.{if_err_and}
pub use Rattle.determinize_below.proofs.Moved.{one_more}
pub use Rattle.determinize_below.proofs.nfas.SoundNfa.{each_passes}
pub use Rattle.determinize_below.specs.Edges.{edges, is_match_node, pattern_in, pattern_of, target}
pub use Rattle.determinize_below.specs.Look.{reversed}
pub use Rattle.determinize_below.specs.Nfa.{IsAccepted, failure, is_sparse_sound, looks_of, resolves}
pub use Rattle.determinize_below.specs.Node.{node_of}
pub use Rattle.determinize_below.specs.Positions.{byte_edges, true_edges, truth}
pub use Rattle.determinize_below.specs.Semantics.{BinaryUnion, ByteRange, Dense, Fail, Look, Match, Nfa, Node, Sparse}
pub use Rattle.determinize_below.specs.Semantics.{Text, Union, after_at, before_at, choices, edges_of, state_at}
pub use Rattle.determinize_below.specs.Semantics.{target_of}
pub use Rattle.determinize_below.specs.Transition.{matches}
pub use Rattle.determinize_below.specs.declared.look.Look.{Look as Assertion}
pub use Rattle.determinize_below.specs.declared.nfa.BuildError.{BuildError}
pub use Rattle.determinize_below.specs.declared.nfa.BuildError.TheVariants.{NotPatchable, OutOfMemory, TooManyStates}
pub use Rattle.determinize_below.specs.declared.nfa.transitions.Transition.{Transition}
pub use Rattle.determinize_below.specs.declared.primitives.TheConstants.{ID_LIMIT, MAX_ID}
pub use Rattle.determinize_nfa.specs.Builder.{BuilderValue, IsApart, IsNotSet, IsUnfit, built, prefixed}
pub use Rattle.determinize_nfa.specs.Prefix.{HasPrefix, HasPrefixApart, leads_to}
pub use Rattle.determinize_nfa.specs.Private.Arcs.{arcs_of, next_of, runs, targets_in}
pub use Rattle.determinize_nfa.specs.Private.Closed.{IsClosed, all_visited}
pub use Rattle.determinize_nfa.specs.Private.Gathered.{gathered, states_of}
pub use Rattle.determinize_nfa.specs.Private.Turning.{Turned, added, none_turned, range_to, sources, total}
pub use Rattle.determinize_nfa.specs.Private.Turning.{turned_over, with_all_reversed, with_arc, with_arcs}
pub use Rattle.determinize_nfa.specs.Private.Turning.{with_end, with_reversed, with_state}
pub use Rattle.determinize_nfa.specs.Reversal.{IsReverseOf, IsTooLarge, is_first, most_states, turned, upto}
pub use Rattle.determinize_nfa.specs.Runs.{AcceptsFrom}
pub use Rattle.determinize_nfa.specs.declared.arcs.Arc.{Arc}
pub use Rattle.determinize_nfa.specs.declared.arcs.Arc.TheVariants.{Free, Range, Test}
