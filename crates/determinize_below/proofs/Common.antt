-- The names that the proofs of this crate have in common: of std, of the definitions, and of the crates below.
pub use borrow.Author.Count.{below_more}
pub use Rattle.std.proofs.Common.{◌%◌, ◌*◌, ◌+◌, ◌++◌, ◌-◌, ◌/◌, ◌<◌, [], ◌^◌, ap, append_assoc, arith, bit_and, bit_or}
pub use Rattle.std.proofs.Common.{Bool, cond, drop, false, get_or, length, length-append, List, lit<, map, nat_eq}
pub use Rattle.std.proofs.Common.{nat_le, ne_eqb, None, not, Option, refl, replicate, rules, set, Some, subst, suc, sym}
pub use Rattle.std.proofs.Common.{take, true, zero, ◌||◌, ℕ, ◌∙◌, ◌∷◌, ◌≡◌, ◌≢◌, ◌≤◌, ◌⊎◌}
pub use Rattle.std.proofs.Math.Seq.{drop-cons, take-append_seam}
pub use Rattle.std.proofs.lemmas.Bool.{agree_below_at, and_from, and_parts, both_ways, cases_eq, cases_lt, cases_order}
pub use Rattle.std.proofs.lemmas.Bool.{eq-eqb, eqb-true, false_from_ne_true, false≢true, lt-ltb, ltb-true, or_left}
pub use Rattle.std.proofs.lemmas.Bool.Decides.{Decides-at, Decides-like, nat_tests}
pub use Rattle.std.proofs.lemmas.List.{append-nil, get_or-set_other, get_or-set_same, get_or-take, get_or_default}
pub use Rattle.std.proofs.lemmas.List.{get_or_past, length-map, length-set, length-take, length-take-le, take_more}
pub use Rattle.std.proofs.lemmas.List.Folds.{Any-from_list_any, list_any-append, list_any-from_Any, list_any_at}
pub use Rattle.std.proofs.lemmas.List.Folds.{list_any_more}
pub use Rattle.std.proofs.lemmas.Nat.{and_le_r, or_lt, pow_pos}
pub use Rattle.std.proofs.lemmas.Nat.Bits.{and_pow, bit_at-lt, bit_at-pow_other, bit_at-pow_same, bit_at-zero}
pub use Rattle.std.proofs.lemmas.Nat.Bits.{bit_at_and, bit_at_not, bit_at_or, bit_at_set_other, bit_at_set_same}
pub use Rattle.std.proofs.lemmas.Nat.Bits.{same_from_bits_below, shr_and_one}
pub use Rattle.std.proofs.lemmas.Option.{get_or_from_slice_get, slice_get-get_or, slice_get-map}
pub use Rattle.std.specs.Bool.{Decides, then_some}
pub use Rattle.std.specs.HashSet.{contains}
pub use Rattle.std.specs.Int.{bit_at, w32, w64}
pub use Rattle.std.specs.List.{Any, find, flat_map, list_all, list_any}
pub use Rattle.std.specs.Option.{is_none, option_map, option_or, option_to_list}
pub use Rattle.std.specs.Prelude.{nat_lt, slice_get}
pub use mathlib.Core.Bool.{◌&&◌, and-false, and-true, or-false}
pub use mathlib.Core.Path.{fun_ext}
pub use Rattle.determinize_below.specs.ByteClasses.{AreAlike, AreTestedAlike, is_marked, MarksChanges}
pub use Rattle.determinize_below.specs.Edges.{assertion_in, assertion_of, edges, is_capture, is_match, IsTested}
pub use Rattle.determinize_below.specs.Edges.{pattern_in, pattern_of, patterns_of, target}
pub use Rattle.determinize_below.specs.Look.{bit_of, each_look, has, reversed}
pub use Rattle.determinize_below.specs.Members.{has_id, Members}
pub use Rattle.determinize_below.specs.Nfa.{failure_of, is_dense_sound, is_match_of, is_repeated, is_sparse_sound}
pub use Rattle.determinize_below.specs.Nfa.{IsAccepted, looks_of, repeats, resolves, state_failure, states_failure}
pub use Rattle.determinize_below.specs.Nfa.{with_look, with_looks_of}
pub use Rattle.determinize_below.specs.Node.{node_of}
pub use Rattle.determinize_below.specs.Private.Clearing.{IsCleared}
pub use Rattle.determinize_below.specs.Private.Sorting.{AreSorted}
pub use Rattle.determinize_below.specs.Private.Sparse.{has_bit, IsSparse}
pub use Rattle.determinize_below.specs.Semantics.{crlf_second, Dense, edges_of, Fail, holds, is, is_word, Match, Nfa}
pub use Rattle.determinize_below.specs.Semantics.{Node, Sparse, state_at, target_of}
pub use Rattle.determinize_below.specs.Transition.{ascends_from, dense_target, is_ascending, matches, sparse_target}
pub use Rattle.determinize_below.specs.Truth.{behind_test, is_known, IsUnit}
pub use Rattle.determinize_below.specs.declared.look.Look.{Look}
pub use Rattle.determinize_below.specs.declared.look.Look.{Look as Assertion}
pub use Rattle.determinize_below.specs.declared.look.Look.TheVariants.{End, EndCRLF, EndLF, Start, StartCRLF, StartLF}
pub use Rattle.determinize_below.specs.declared.look.Look.TheVariants.{WordAscii, WordAsciiNegate, WordEndAscii}
pub use Rattle.determinize_below.specs.declared.look.Look.TheVariants.{WordEndHalfAscii, WordEndHalfUnicode}
pub use Rattle.determinize_below.specs.declared.look.Look.TheVariants.{WordEndUnicode, WordStartAscii}
pub use Rattle.determinize_below.specs.declared.look.Look.TheVariants.{WordStartHalfAscii, WordStartHalfUnicode}
pub use Rattle.determinize_below.specs.declared.look.Look.TheVariants.{WordStartUnicode, WordUnicode, WordUnicodeNegate}
pub use Rattle.determinize_below.specs.declared.nfa.transitions.Transition.{Transition}
pub use Rattle.ordered_reach.proofs.Cases.{by_cases, by_option, by_test}
pub use Rattle.ordered_reach.specs.Reach.{ends, member, none_held, ordered}
