-- Sets of bytes or characters as ranges.
use Rattle.std.specs.Prelude.{◌&&◌, ◌||◌, ◌≡◌, ◌<◌, ℕ, Bool, List, None, Option, Some, cond, false, if◌then◌else◌, nat_lt, not, true}
use Rattle.std.specs.Char.{is_ascii, is_ascii_alphabetic, is_ascii_alphanumeric, is_ascii_control, is_ascii_digit, is_ascii_graphic, is_ascii_hexdigit, is_ascii_lowercase, is_ascii_punctuation, is_ascii_uppercase, to_ascii_lowercase, to_ascii_uppercase}
use Rattle.std.specs.Int.{is_in_range}
use Rattle.determinize_pattern.specs.Characters.{char_pairs}
use Rattle.determinize_pattern.specs.Classes.{pairs}
use Rattle.determinize_pattern.specs.Meaning.{is_in}
use Rattle.determinize_pattern.specs.declared.chars.ClassUnicodeRange.{ClassUnicodeRange}
use Rattle.determinize_pattern.specs.declared.class.ClassBytesRange.{ClassBytesRange}
use Rattle.determinize_syntax.specs.Words.{Set, ◌∈◌, space_set, word_set}
use Rattle.determinize_syntax.specs.declared.kind.ClassKind.{ClassKind}
use Prim.Native.String.{String}
use Rattle.determinize_syntax.specs.declared.kind.ClassKind.TheVariants.{Alnum, Alpha, Ascii, Blank, Cntrl, Digit, Graph, Lower, Print, Punct, Space, Upper, Word, Xdigit}

-- the bytes of the ranges
abbrev pub has : List ClassBytesRange → Set
has ranges b = is_in (pairs ranges) (Some b)

-- the characters of the ranges, or the bytes with their numbers
abbrev pub has_char : List ClassUnicodeRange → Set
has_char ranges c = is_in (char_pairs ranges) (Some c)

-- the characters of the ranges are those of the set
abbrev pub HasChars : Set → List (ℕ × ℕ) → Type 0
HasChars s ranges = (c : ℕ) → c < 0x11_0000 → is_in ranges (Some c) ≡ s c

-- the new ranges also have the characters of the set
abbrev pub AddsChars : Set → List (ℕ × ℕ) → List (ℕ × ℕ) → Type 0
AddsChars s old new =
    (c : ℕ) → c < 0x11_0000 → is_in new (Some c) ≡ (is_in old (Some c) || s c)

-- one case of the byte is in the set
abbrev pub either_case : Set → Set
either_case s b = s (to_ascii_lowercase b) || s (to_ascii_uppercase b)

-- the set, or the other bytes
abbrev pub turned : Bool → Set → Set
turned negated s b = cond negated (not (s b)) (s b)

-- of the bytes below i, the ranges have those of the set
abbrev pub HasBelow : Set → ℕ → List ClassBytesRange → Type 0
HasBelow s i ranges = (b : ℕ) → has ranges b ≡ (nat_lt b i && s b)

-- the bytes of a class that has a name
abbrev pub set_of : ClassKind → Set
set_of Alnum = is_ascii_alphanumeric
set_of Alpha = is_ascii_alphabetic
set_of Ascii = is_ascii
set_of Blank = λ c. c ∈ "\t "
set_of Cntrl = is_ascii_control
set_of Digit = is_ascii_digit
set_of Graph = is_ascii_graphic
set_of Lower = is_ascii_lowercase
set_of Print = is_in_range 0x20 0x7E
set_of Punct = is_ascii_punctuation
set_of Space = space_set
set_of Upper = is_ascii_uppercase
set_of Word = word_set
set_of Xdigit = is_ascii_hexdigit

-- the name of a class
abbrev pub name_of : ClassKind → String
name_of Alnum = "alnum"
name_of Alpha = "alpha"
name_of Ascii = "ascii"
name_of Blank = "blank"
name_of Cntrl = "cntrl"
name_of Digit = "digit"
name_of Graph = "graph"
name_of Lower = "lower"
name_of Print = "print"
name_of Punct = "punct"
name_of Space = "space"
name_of Upper = "upper"
name_of Word = "word"
name_of Xdigit = "xdigit"

-- the class of a letter and whether it has all other bytes, as `\d` and `\D`
abbrev pub perl_of : ℕ → Option (ClassKind × Bool)
perl_of c =
    if c ∈ "d" then Some (Digit, false) else if c ∈ "D" then Some (Digit, true)
    else if c ∈ "w" then Some (Word, false) else if c ∈ "W" then Some (Word, true)
    else if c ∈ "s" then Some (Space, false) else if c ∈ "S" then Some (Space, true) else None
