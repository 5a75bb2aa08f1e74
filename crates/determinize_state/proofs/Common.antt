-- The names that the proofs of this crate have in common: of std, of the definitions, and of the crates below.
pub use Rattle.std.proofs.Common.{◌%◌, ◌*◌, ◌+◌, ◌++◌, ◌-◌, ◌/◌, ◌<◌, ◌==◌, [], ◌^◌, All, ap, append_assoc, arith}
pub use Rattle.std.proofs.Common.{drop, false, IfNone, IfSome, inr, length, length-append, List, lit≤, nat_eq, nat_lt}
pub use Rattle.std.proofs.Common.{None, not, Option, refl, slice_index, Some, subst, suc, sym, take, true, zero}
pub use Rattle.std.proofs.Common.{zero-add, ◌||◌, ℕ, ◌∙◌, ◌∷◌, ◌≡◌, ◌≤◌, ◌⊎◌}
pub use Rattle.std.proofs.Math.Seq.{drop-append_seam, take-append_seam}
pub use Rattle.std.proofs.lemmas.Bool.{eq-eqb, eqb-true, or_left, true≢false}
pub use Rattle.std.proofs.lemmas.Bool.Decides.{Decides-at, Decides-or, nat_tests}
pub use Rattle.std.proofs.lemmas.List.{append-nil, drop-drop}
pub use Rattle.std.proofs.lemmas.List.Elements.{All-head, All-push, All-tail, filter-append}
pub use Rattle.std.specs.Bool.{Decides, one_answer}
pub use Rattle.std.specs.Cmp.{Equal-is, nat_eq_equiv, unsigned_ties}
pub use Rattle.std.specs.Cmp.Lexicographic.{bytes_decides, lists_ties, pointwise, slice_cmp}
pub use Rattle.std.specs.Int.{from_le_bytes, w32}
pub use Rattle.std.specs.List.{Any, Contains, list_any}
pub use Rattle.determinize_below.specs.Edges.{assertion_of, is_capture}
pub use Rattle.determinize_below.specs.Look.{bit_of, has}
pub use Rattle.determinize_below.specs.Semantics.{Nfa}
pub use Rattle.determinize_below.specs.declared.primitives.TheConstants.{ID_LIMIT, MAX_ID}
pub use Rattle.determinize_state.specs.Building.{IsBuilding}
pub use Rattle.determinize_state.specs.Equality.{by_bytes, Decides-same, parts, same}
pub use Rattle.determinize_state.specs.Private.Groups.{read}
pub use Rattle.determinize_state.specs.Private.PatternBytes.{with_bit}
pub use Rattle.determinize_state.specs.Recording.{added, added_one, IsGrown, needs, with_assertion}
pub use Rattle.determinize_state.specs.Spelling.{has_flag, is_explicit, IsSpelled, number_at, numbers_in, patterns_in}
pub use Rattle.determinize_state.specs.Spelling.{spell, start_in, value_of, with_word, word, words}
pub use Rattle.determinize_state.specs.Value.{dead, is_nonempty, IsValue, Value, with_pattern, with_state}
pub use Rattle.determinize_state.specs.declared.state.bytes.TheConstants.{COUNT, EXPLICIT, FROM_WORD, HALF_CRLF, LOOK_HAVE}
pub use Rattle.determinize_state.specs.declared.state.bytes.TheConstants.{LOOK_NEED, MATCH, PATTERNS}
pub use Rattle.determinize_state.specs.Varint.{deltas, groups, ids_from, IsDeltas, last_id, unzigzag, varint, zigzag}
pub use Rattle.ordered_reach.proofs.Cases.{by_test}
pub use Rattle.ordered_reach.specs.Runs.{without}
