-- What most proofs of this crate name.
pub use Prim.Native.String.{String}
pub use Rattle.determinize_below.specs.Semantics.{within}
pub use Rattle.determinize_below.specs.declared.look.Look.{Look}
pub use Rattle.determinize_pattern.specs.Characters.{char_pairs}
pub use Rattle.determinize_pattern.specs.Classes.{HasBytes, pairs}
pub use Rattle.determinize_pattern.specs.Meaning.{Re, is_in}
pub use Rattle.determinize_pattern.specs.Patterns.{IsClass, choice_of, meaning, repeated}
pub use Rattle.determinize_pattern.specs.declared.class.ClassBytesRange.{ClassBytesRange}
pub use Rattle.determinize_syntax.proofs.Bytes.{apart, at_end, chosen, clash, either, front_of, heads, tails}
pub use Rattle.determinize_syntax.proofs.Parts.{Text, closed, ok_then, on_ok, onward, part_shorter, prefixed, renamed}
pub use Rattle.determinize_syntax.proofs.Parts.{took}
pub use Rattle.determinize_syntax.specs.Limits.{HasNameTwice, bracketed, openings}
pub use Rattle.determinize_syntax.specs.Private.Following.{AfterOperator, Bracketed, CountsTo, Enters, FromAtom}
pub use Rattle.determinize_syntax.specs.Private.Following.{FromItem, FromOperator, IsAfterLetters, IsBranchEnd, IsCount}
pub use Rattle.determinize_syntax.specs.Private.Following.{IsPastBoundary, NoDigit, is_in_boundary}
pub use Rattle.determinize_syntax.specs.Private.Letters.{AtBound, AtEscape, AtNumber, Inner, IsWideAt, Item, Letters}
pub use Rattle.determinize_syntax.specs.Private.Letters.{Listing, NamedTo}
pub use Rattle.determinize_syntax.specs.Private.Names.{Passes}
pub use Rattle.determinize_syntax.specs.Private.Reading.{IsDigit, IsDigits, IsEscape, IsFlag, IsNamed, IsNotAt}
pub use Rattle.determinize_syntax.specs.Private.Reading.{IsSetting, Part, Reads, rest}
pub use Rattle.determinize_syntax.specs.Private.Sets.{AddsChars, HasBelow, HasChars, either_case, has, has_char}
pub use Rattle.determinize_syntax.specs.Private.Sets.{name_of, set_of, turned}
pub use Rattle.determinize_syntax.specs.Spells.{Atom, Bound, Branches, Bytes, Choice, Escaped, Inside, IsOneOf, IsWide}
pub use Rattle.determinize_syntax.specs.Spells.{Lists, Operator, Repeated, Sets, SpellsUnder, Wide, character, itself}
pub use Rattle.determinize_syntax.specs.Spells.{may_end, sequence_of, stands}
pub use Rattle.determinize_syntax.specs.Words.{Set, assertion, begins_name, folded, is_in_name, is_name, knows_cases}
pub use Rattle.determinize_syntax.specs.Words.{named_class, number, only, set_flag, ◌∈◌}
pub use Rattle.determinize_syntax.specs.declared.bracket.Before.{Before}
pub use Rattle.determinize_syntax.specs.declared.escape.Escape.{Escape}
pub use Rattle.determinize_syntax.specs.declared.flags.Flags.{Flags}
pub use Rattle.determinize_syntax.specs.declared.kind.ClassKind.{ClassKind}
pub use Rattle.determinize_syntax.specs.declared.parser.TheConstants.{NEST_LIMIT}
pub use Rattle.ordered_reach.proofs.Cases.{by_cases, by_test, some_injective}
pub use Rattle.std.proofs.Common.{Bool, Global, List, None, Option, Some, Vec, [], ap, arith, cond, drop, false}
pub use Rattle.std.proofs.Common.{if◌then◌else◌, inl, inr, length, ltb-false, ltb-true, map, nat_eq, nat_lt, not, refl}
pub use Rattle.std.proofs.Common.{rules, slice_get, subst, sym, true, ℕ, ◌&&◌, ◌*◌, ◌++◌, ◌+◌, ◌-◌, ◌<◌, ◌^◌, ◌||◌, ◌∙◌}
pub use Rattle.std.proofs.Common.{◌∷◌, ◌≡◌, ◌≤◌, ◌⊎◌}
pub use Rattle.std.proofs.lemmas.Bool.{and_parts, eqb-true, not-true}
pub use Rattle.std.proofs.lemmas.Bool.Decides.{nat_tests}
pub use Rattle.std.proofs.lemmas.List.{append-nil, append_assoc}
pub use Rattle.std.proofs.lemmas.List.Elements.{All-nil}
pub use Rattle.std.proofs.lemmas.List.Folds.{list_all-append, list_any-append}
pub use Rattle.std.proofs.lemmas.Str.{IsUtf8-encode, encode_same, length-encode}
pub use Rattle.std.specs.Char.{IsScalar, digit_value, encode_utf8, is_ascii, is_digit, len_utf8, to_ascii_lowercase}
pub use Rattle.std.specs.Char.{to_ascii_uppercase}
pub use Rattle.std.specs.List.{list_all, list_any}
pub use Rattle.std.specs.Prelude.{codes, is_some, ◌==◌}
