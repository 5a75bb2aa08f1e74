-- Places in a text, and the parts between them.
use Rattle.std.specs.Prelude.{◌≡◌, ◌≤◌, ◌++◌, ◌∷◌, ◌==◌, ◌||◌, [], ℕ, Bool, List, Option, Some, codes, false, if◌then◌else◌, not, slice_get, true}
use Rattle.std.specs.Char.{digit_value, is_digit}
use Rattle.std.specs.List.{list_any}
use Rattle.std.specs.Option.{option_map}
use Rattle.determinize_pattern.specs.Meaning.{Re}
use Rattle.determinize_syntax.specs.Private.Sets.{perl_of}
use Rattle.determinize_syntax.specs.Spells.{Atom, Escaped, Sets, SpellsUnder, Wide}
use Rattle.determinize_syntax.specs.Words.{◌∈◌, assertion, escaped_byte, is_text_end, is_name, knows_cases, number, set_flag}
use Rattle.determinize_syntax.specs.declared.escape.Escape.{Escape}
use Rattle.determinize_syntax.specs.declared.escape.Escape.TheVariants as escape
use Rattle.determinize_syntax.specs.declared.flags.Flags.{Flags}
use Rattle.determinize_syntax.specs.declared.cursor.Cursor.{Cursor}

-- what is still to read
abbrev pub rest : Cursor → List ℕ
rest c = c.rest.now

-- the first text is the second after a part of which P holds
abbrev pub Part : List ℕ → List ℕ → (List ℕ → Type 0) → Type 0
Part old new P = (t : List ℕ) × (old ≡ t ++ new) × P t

-- a part of the text was read, of which P holds
abbrev pub Reads : Cursor → Cursor → (List ℕ → Type 0) → Type 0
Reads old new P = Part (rest old) (rest new) P

-- another byte comes next, or the text ends
abbrev pub IsNotAt : ℕ → Cursor → Type 0
IsNotAt b c = slice_get (rest c) 0 ≡ Some b → ⊥

-- one digit, of this value
abbrev pub IsDigit : ℕ → ℕ → List ℕ → Type 0
IsDigit radix n t = (d : ℕ) × (t ≡ d ∷ []) × (is_digit d radix ≡ true) × (n ≡ digit_value d)

-- one letter that sets or clears a flag, and is not among those seen
abbrev pub IsFlag : List ℕ → Flags → Bool → Flags → List ℕ → Type 0
IsFlag seen f on g t = (c : ℕ) × (t ≡ c ∷ []) × (list_any (λ d. d == c) seen ≡ false)
    × (set_flag f c on ≡ Some g)

-- flags after those that were seen
abbrev pub SetsMore : List ℕ → Bool → Flags → Bool → Flags → List ℕ → Type 0
SetsMore seen on g later h t = (f : Flags) → Sets f on g seen → Sets f later h (seen ++ t)

-- `(?flags)`, which makes g of f
abbrev pub IsSetting : Flags → Flags → List ℕ → Type 0
IsSetting f g t = (on : Bool) × (c : ℕ) × (n : List ℕ) × (t ≡ codes "(?" ++ c ∷ n ++ codes ")")
    × Sets f on g (c ∷ n)

-- the name of a group, and its end
abbrev pub IsNamed : List ℕ → Type 0
IsNamed t = (n : List ℕ) × (is_name n ≡ true) × (t ≡ n ++ codes ">")

-- what opens a group after its parenthesis, with the flags inside
abbrev pub Opens : Flags → Flags → List ℕ → Type 0
Opens f g t = (re : Re) (u : List ℕ) → SpellsUnder g re u
    → Atom f re (0x28 ∷ (t ++ (u ++ 0x29 ∷ [])))

-- hexadecimal digits, of this value if it is small enough for a character
abbrev pub IsDigits : ℕ → List ℕ → Type 0
IsDigits n t = n ≤ 0x10_FFFF → number 16 t ≡ Some n

-- the text of an escape, with its backslash
abbrev pub IsEscape : Escape → List ℕ → Type 0
IsEscape (escape.Byte b) t = Escaped b t
IsEscape (escape.Wide c) t = Wide c t
IsEscape (escape.Class kind negated) t = (c : ℕ)
    × (perl_of c ≡ Some (kind, negated)) × (t ≡ 0x5C ∷ c ∷ [])
IsEscape (escape.Look l) t = (u : List ℕ) × (assertion u ≡ Some l) × (t ≡ 0x5C ∷ u)

-- the escape of a backslash and one byte, but for `\x` and `\b`
abbrev pub one_byte : ℕ → Option Escape
one_byte c =
    if c ∈ "AzB<>" then option_map (λ l. escape.Look l) (assertion (c ∷ []))
    else if c ∈ "dDwWsS" then option_map (λ x. escape.Class x.0 x.1) (perl_of c)
    else option_map (λ b. escape.Byte b) (escaped_byte c)

-- the escape needs no tables of Unicode where it is
abbrev pub is_available : Flags → Escape → Bool
is_available f (escape.Class kind negated) = not f.unicode
is_available f (escape.Look l) = not f.unicode || is_text_end l
is_available f _ = knows_cases f
