-- The sets of assertions that a unit satisfies, built one by one.
use Rattle.std.specs.Prelude.{ℕ, Bool, not, Option}
use mathlib.Core.Bool.{◌&&◌, ◌||◌, beq}
use Rattle.determinize_below.specs.Semantics.{crlf_first, crlf_second, is}
use Rattle.std.specs.Option.{is_none}
use Rattle.determinize_below.specs.declared.look.Look.TheVariants.{End, EndLF, StartCRLF, EndCRLF, WordAscii, WordAsciiNegate, WordUnicode, WordUnicodeNegate, WordStartAscii, WordEndAscii, WordStartUnicode, WordEndUnicode, WordEndHalfAscii, WordEndHalfUnicode}
use Rattle.determinize_start.specs.LookTables.{Tables, insert_where}

-- the set of `word_opened`
abbrev pub word_set : Bool → Bool → ℕ
word_set from_word word =
    insert_where (insert_where (insert_where (insert_where (insert_where
    (insert_where (insert_where (insert_where (insert_where (insert_where 0
    (not (beq from_word word)) WordAscii)
    (not (beq from_word word)) WordUnicode)
    (beq from_word word) WordAsciiNegate)
    (beq from_word word) WordUnicodeNegate)
    (not from_word && word) WordStartAscii)
    (not from_word && word) WordStartUnicode)
    (from_word && not word) WordEndAscii)
    (from_word && not word) WordEndUnicode)
    (not word) WordEndHalfAscii)
    (not word) WordEndHalfUnicode

-- the set of `line_opened`
abbrev pub line_set : Tables → Bool → Option ℕ → ℕ
line_set t half_crlf u =
    insert_where (insert_where (insert_where (insert_where 0
    (is_none u) End)
    (is_none u || is u t.terminator) EndLF)
    (is_none u || is u (crlf_first t.reverse)
    || (is u (crlf_second t.reverse) && not half_crlf)) EndCRLF)
    (half_crlf && not (is u (crlf_second t.reverse))) StartCRLF
