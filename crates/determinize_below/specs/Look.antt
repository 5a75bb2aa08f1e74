-- Assertions and sets of them. A set is the number whose bits are its members.
use Rattle.std.specs.Prelude.{ℕ, Bool, not, nat_eq, bit_and, bit_or, List, [], ◌∷◌}
use Rattle.std.specs.Int.{bit_not, w32}
use Rattle.determinize_below.specs.declared.look.Look.{Look}
use Rattle.determinize_below.specs.declared.look.Look.TheVariants.{Start, End, StartLF, EndLF, StartCRLF, EndCRLF, WordAscii, WordAsciiNegate, WordUnicode, WordUnicodeNegate, WordStartAscii, WordEndAscii, WordStartUnicode, WordEndUnicode, WordStartHalfAscii, WordEndHalfAscii, WordStartHalfUnicode, WordEndHalfUnicode}

-- the bit of the assertion
abbrev pub bit_of : Look → ℕ
bit_of Start = 0x1
bit_of End = 0x2
bit_of StartLF = 0x4
bit_of EndLF = 0x8
bit_of StartCRLF = 0x10
bit_of EndCRLF = 0x20
bit_of WordAscii = 0x40
bit_of WordAsciiNegate = 0x80
bit_of WordUnicode = 0x100
bit_of WordUnicodeNegate = 0x200
bit_of WordStartAscii = 0x400
bit_of WordEndAscii = 0x800
bit_of WordStartUnicode = 0x1000
bit_of WordEndUnicode = 0x2000
bit_of WordStartHalfAscii = 0x4000
bit_of WordEndHalfAscii = 0x8000
bit_of WordStartHalfUnicode = 0x10000
bit_of WordEndHalfUnicode = 0x20000

-- whether the sets have a member in common
unfoldable pub meets : ℕ → ℕ → Bool
meets a b = not (nat_eq (bit_and a b) 0)

-- whether the set contains the assertion
unfoldable pub has : ℕ → Look → Bool
has set look = not (nat_eq (bit_and set (bit_of look)) 0)

-- the set with the assertion added
unfoldable pub insert : ℕ → Look → ℕ
insert set look = bit_or set (bit_of look)

-- the set with the assertion removed
unfoldable pub remove : ℕ → Look → ℕ
remove set look = bit_and set (bit_not w32 (bit_of look))

-- the union of the sets
abbrev pub union : ℕ → ℕ → ℕ
union a b = bit_or a b

-- the intersection of the sets
abbrev pub intersect : ℕ → ℕ → ℕ
intersect a b = bit_and a b

-- the members of the first set that are not in the second
unfoldable pub subtract : ℕ → ℕ → ℕ
subtract a b = bit_and a (bit_not w32 b)

-- whether the set contains a haystack assertion
abbrev pub has_haystack : ℕ → Bool
has_haystack set = meets set 0x3

-- whether the set contains a line assertion
abbrev pub has_line : ℕ → Bool
has_line set = meets set 0x3C

-- whether the set contains a CRLF assertion
abbrev pub has_crlf : ℕ → Bool
has_crlf set = meets set 0x30

-- whether the set contains a word assertion
abbrev pub has_word : ℕ → Bool
has_word set = meets set 0x3FFC0

-- all 18 assertions
abbrev pub each_look : List Look
each_look =
    Start ∷ End ∷ StartLF ∷ EndLF ∷ StartCRLF ∷ EndCRLF ∷ WordAscii ∷ WordAsciiNegate ∷ WordUnicode
    ∷ WordUnicodeNegate ∷ WordStartAscii ∷ WordEndAscii ∷ WordStartUnicode ∷ WordEndUnicode
    ∷ WordStartHalfAscii ∷ WordEndHalfAscii ∷ WordStartHalfUnicode ∷ WordEndHalfUnicode ∷ []

-- the assertion that says the same of a text that is read in the other direction
abbrev pub reversed : Look → Look
reversed Start = End
reversed End = Start
reversed StartLF = EndLF
reversed EndLF = StartLF
reversed StartCRLF = EndCRLF
reversed EndCRLF = StartCRLF
reversed WordAscii = WordAscii
reversed WordAsciiNegate = WordAsciiNegate
reversed WordUnicode = WordUnicode
reversed WordUnicodeNegate = WordUnicodeNegate
reversed WordStartAscii = WordEndAscii
reversed WordEndAscii = WordStartAscii
reversed WordStartUnicode = WordEndUnicode
reversed WordEndUnicode = WordStartUnicode
reversed WordStartHalfAscii = WordEndHalfAscii
reversed WordEndHalfAscii = WordStartHalfAscii
reversed WordStartHalfUnicode = WordEndHalfUnicode
reversed WordEndHalfUnicode = WordStartHalfUnicode
