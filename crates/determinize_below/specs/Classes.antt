-- The members of the classes of assertions.
use Rattle.std.specs.Prelude.{List, [], ◌∷◌}
use Rattle.determinize_below.specs.declared.look.Look.{Look}
use Rattle.determinize_below.specs.declared.look.Look.TheVariants.{Start, End, StartLF, EndLF, StartCRLF, EndCRLF, WordAscii, WordAsciiNegate, WordUnicode, WordUnicodeNegate, WordStartAscii, WordEndAscii, WordStartUnicode, WordEndUnicode, WordStartHalfAscii, WordEndHalfAscii, WordStartHalfUnicode, WordEndHalfUnicode}

-- the haystack assertions
abbrev pub haystack_looks : List Look
haystack_looks = Start ∷ End ∷ []

-- the line assertions
abbrev pub line_looks : List Look
line_looks = StartLF ∷ EndLF ∷ StartCRLF ∷ EndCRLF ∷ []

-- the CRLF assertions
abbrev pub crlf_looks : List Look
crlf_looks = StartCRLF ∷ EndCRLF ∷ []

-- the word assertions
abbrev pub word_looks : List Look
word_looks =
    WordAscii ∷ WordAsciiNegate ∷ WordUnicode ∷ WordUnicodeNegate ∷ WordStartAscii ∷ WordEndAscii
    ∷ WordStartUnicode ∷ WordEndUnicode ∷ WordStartHalfAscii ∷ WordEndHalfAscii
    ∷ WordStartHalfUnicode ∷ WordEndHalfUnicode ∷ []
