-- The words of the grammar: sets of bytes or characters, what a backslash makes of a letter, names,
-- flags, and numbers.
use Rattle.std.specs.Prelude.{◌+◌, ◌*◌, ℕ, Bool, List, None, Option, Some, [], ◌∷◌, ◌==◌, ◌&&◌, ◌||◌, codes, cond, false, if◌then◌else◌, nat_eq, not, true}
use Rattle.std.specs.List.{list_all, list_any}
use Rattle.std.specs.Char.{digit_value, is_ascii, is_ascii_alphabetic, is_ascii_alphanumeric, is_ascii_control, is_ascii_digit, is_ascii_graphic, is_ascii_hexdigit, is_ascii_lowercase, is_ascii_punctuation, is_ascii_uppercase, is_digit, to_ascii_lowercase, to_ascii_uppercase}
use Rattle.std.specs.Int.{is_in_range}
use Rattle.determinize_below.specs.declared.look.Look.{Look}
use Rattle.determinize_below.specs.declared.look.Look.TheVariants.{Start, End, WordAscii, WordAsciiNegate, WordStartAscii, WordEndAscii, WordStartHalfAscii, WordEndHalfAscii}
use Rattle.determinize_syntax.specs.declared.flags.Flags.{Flags}
use lib.Pointwise.{pointwise}
use Prim.Native.String.{String}

-- a set of bytes, or under `u` of characters
abbrev pub Set : Type 0
Set = ℕ → Bool

-- the byte is one of these
infix 60 ◌∈◌
abbrev pub ◌∈◌ : ℕ → String → Bool
c ∈ s = list_any (λ d. d == c) (codes s)

-- the text is this one
abbrev pub is_text : String → List ℕ → Bool
is_text s t = pointwise nat_eq t (codes s)

abbrev pub complement : Set → Set
complement s c = not (s c)

abbrev pub joined : Set → Set → Set
joined s t c = s c || t c

abbrev pub only : ℕ → Set
only b c = c == b

-- no flag is set
abbrev pub no_flags : Flags
no_flags = record {
  case_insensitive = false;
  multi_line = false;
  dot_matches_new_line = false;
  swap_greed = false;
  crlf = false;
  unicode = false;
}

-- only the cases of ASCII letters are known, so `i` and `u` together are not supported
abbrev pub knows_cases : Flags → Bool
knows_cases f = not (f.unicode && f.case_insensitive)

-- under `i` a byte is in the set if one of its cases is
abbrev pub folded : Flags → Set → Set
folded f s c = cond f.case_insensitive (s (to_ascii_lowercase c) || s (to_ascii_uppercase c)) (s c)

abbrev pub space_set : Set
space_set c = is_in_range 9 13 c || c == 32

abbrev pub word_set : Set
word_set c = is_ascii_alphanumeric c || c == 0x5F

-- what a dot reads: everything under `s`, and else all but the ends of lines
abbrev pub dot_set : Flags → Set
dot_set f c = f.dot_matches_new_line || not (cond f.crlf (c ∈ "\r\n") (c ∈ "\n"))

-- `\d`, `\D` and the like, by the letter
abbrev pub perl_class : ℕ → Option Set
perl_class c =
    if c ∈ "d" then Some is_ascii_digit else if c ∈ "D" then Some (complement is_ascii_digit)
    else if c ∈ "w" then Some word_set else if c ∈ "W" then Some (complement word_set)
    else if c ∈ "s" then Some space_set else if c ∈ "S" then Some (complement space_set) else None

-- `[:alpha:]` and the like, by the name
abbrev pub named_class : List ℕ → Option Set
named_class n =
    if is_text "alnum" n then Some is_ascii_alphanumeric
    else if is_text "alpha" n then Some is_ascii_alphabetic
    else if is_text "ascii" n then Some is_ascii
    else if is_text "blank" n then Some (λ c. c ∈ "\t ")
    else if is_text "cntrl" n then Some is_ascii_control
    else if is_text "digit" n then Some is_ascii_digit
    else if is_text "graph" n then Some is_ascii_graphic
    else if is_text "lower" n then Some is_ascii_lowercase
    else if is_text "print" n then Some (is_in_range 0x20 0x7E)
    else if is_text "punct" n then Some is_ascii_punctuation
    else if is_text "space" n then Some space_set
    else if is_text "upper" n then Some is_ascii_uppercase
    else if is_text "word" n then Some word_set
    else if is_text "xdigit" n then Some is_ascii_hexdigit else None

-- the byte that a backslash and this one denote: `\n` and the like, and each sign as itself
abbrev pub escaped_byte : ℕ → Option ℕ
escaped_byte c =
    if c ∈ "a" then Some 7 else if c ∈ "t" then Some 9 else if c ∈ "n" then Some 10
    else if c ∈ "v" then Some 11 else if c ∈ "f" then Some 12 else if c ∈ "r" then Some 13
    else if is_ascii c && not (is_ascii_alphanumeric c) && not (c ∈ "<>") then Some c else None

-- the assertion of a backslash and this text
abbrev pub assertion : List ℕ → Option Look
assertion t =
    if is_text "A" t then Some Start else if is_text "z" t then Some End
    else if is_text "b" t then Some WordAscii else if is_text "B" t then Some WordAsciiNegate
    else if is_text "<" t || is_text "b{start}" t then Some WordStartAscii
    else if is_text ">" t || is_text "b{end}" t then Some WordEndAscii
    else if is_text "b{start-half}" t then Some WordStartHalfAscii
    else if is_text "b{end-half}" t then Some WordEndHalfAscii else None

-- `\A` and `\z`, which are not about words
abbrev pub is_text_end : Look → Bool
is_text_end Start = true
is_text_end End = true
is_text_end look = false

-- the assertion of `^` or `$`: at the ends of the text, under `m` at those of lines too
abbrev pub at_line : Flags → Look → Look → Look → Look
at_line f whole lf crlf = cond f.multi_line (cond f.crlf crlf lf) whole

-- the number that the digits are, with a value n before them
abbrev pub number_after : ℕ → ℕ → List ℕ → ℕ
number_after radix n [] = n
number_after radix n (c ∷ t) = number_after radix (n * radix + digit_value c) t

-- one or more digits
abbrev pub number : ℕ → List ℕ → Option ℕ
number radix [] = None
number radix (c ∷ t) =
    if list_all (λ d. is_digit d radix) (c ∷ t) then Some (number_after radix 0 (c ∷ t)) else None

-- the flags once the letter has set or cleared one
abbrev pub set_flag : Flags → ℕ → Bool → Option Flags
set_flag f c on =
    if c ∈ "i" then Some (record f { case_insensitive = on })
    else if c ∈ "m" then Some (record f { multi_line = on })
    else if c ∈ "s" then Some (record f { dot_matches_new_line = on })
    else if c ∈ "U" then Some (record f { swap_greed = on })
    else if c ∈ "R" then Some (record f { crlf = on })
    else if c ∈ "u" then Some (record f { unicode = on }) else None

-- the name of a group begins with a letter or `_`, and then has letters, digits and these signs
abbrev pub begins_name : Set
begins_name c = is_ascii_alphabetic c || c ∈ "_"

abbrev pub is_in_name : Set
is_in_name c = is_ascii_alphanumeric c || c ∈ "_.[]"

abbrev pub is_name : List ℕ → Bool
is_name [] = false
is_name (c ∷ t) = begins_name c && list_all is_in_name t
