-- The names that the proofs of this crate have in common: of std, of the definitions, and of the crates below.
pub use Rattle.std.proofs.Common.{◌<◌, ap, arith, bit_or, Bool, false, get_or, length, nat_eq, None, not, Option, refl}
pub use Rattle.std.proofs.Common.{Some, subst, sym, true, ℕ, ◌∙◌, ◌≡◌}
pub use Rattle.std.proofs.lemmas.Bool.{and_parts, eq-eqb, eqb-true}
pub use Rattle.std.specs.Option.{is_none}
pub use mathlib.Core.Bool.{◌&&◌, and-false, and-true, beq, or-false, ◌||◌}
pub use Rattle.determinize_below.proofs.looks.LookBehindTable.{known-holds, known_is}
pub use Rattle.determinize_below.proofs.looks.LookSets.{has-empty, has-insert, has-union}
pub use Rattle.determinize_below.specs.Look.{has, has_crlf, has_haystack, has_line, has_word}
pub use Rattle.determinize_below.specs.Semantics.{crlf_first, crlf_second, holds, is, is_word, Nfa}
pub use Rattle.determinize_below.specs.Truth.{behind_test, is_known}
pub use Rattle.determinize_below.specs.Unit.{byte_of}
pub use Rattle.determinize_below.specs.declared.look.Look.{Look}
pub use Rattle.determinize_below.specs.declared.look.Look.TheVariants.{End, EndCRLF, EndLF, Start, StartCRLF, StartLF}
pub use Rattle.determinize_below.specs.declared.look.Look.TheVariants.{WordAscii, WordAsciiNegate, WordEndAscii}
pub use Rattle.determinize_below.specs.declared.look.Look.TheVariants.{WordEndHalfAscii, WordEndHalfUnicode}
pub use Rattle.determinize_below.specs.declared.look.Look.TheVariants.{WordEndUnicode, WordStartAscii}
pub use Rattle.determinize_below.specs.declared.look.Look.TheVariants.{WordStartHalfAscii, WordStartHalfUnicode}
pub use Rattle.determinize_below.specs.declared.look.Look.TheVariants.{WordStartUnicode, WordUnicode, WordUnicodeNegate}
pub use Rattle.determinize_start.specs.LookTables.{from_word_after, half_crlf_after, have_after, have_at_start}
pub use Rattle.determinize_start.specs.LookTables.{IsFlagged, opened, tables, Tables, tables_of}
pub use Rattle.determinize_start.specs.Private.LookSets.{line_set, word_set}
pub use Rattle.determinize_start.specs.StartKinds.{start_kind, start_kind_of}
pub use Rattle.determinize_start.specs.declared.start.Start.TheVariants.{CustomLineTerminator, LineCR, LineLF}
pub use Rattle.determinize_start.specs.declared.start.Start.TheVariants.{NonWordByte, Text, WordByte}
pub use Rattle.ordered_reach.proofs.Cases.{by_test}
