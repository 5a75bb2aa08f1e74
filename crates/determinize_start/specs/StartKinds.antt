-- Start configurations and start kinds.
use Rattle.std.specs.Prelude.{◌≡◌, ℕ, suc, zero, cond, Option, Some, None, nat_eq, List, [], ◌∷◌, slice_get}
use Rattle.determinize_below.specs.Semantics.{is_word_byte}
use Rattle.determinize_below.specs.Truth.{IsUnit}
use Rattle.determinize_below.specs.declared.search.Anchored.{Anchored}
use Rattle.determinize_start.specs.declared.start.Start.{Start as Kind}
use Rattle.determinize_start.specs.declared.start.Start.TheVariants.{NonWordByte, WordByte, Text, LineLF, LineCR, CustomLineTerminator}

-- the value of a `Config`: the byte behind a start, and the anchored mode
pub record Setup : Type 0 where
  pub look_behind : Option ℕ
  pub anchored : Anchored

-- the byte before this index, if there is one
abbrev pub byte_before : List ℕ → ℕ → Option ℕ
byte_before haystack zero = None
byte_before haystack (suc i) = slice_get haystack i

-- all start kinds, in the order of their numbers
abbrev pub each_start : List Kind
each_start = NonWordByte ∷ WordByte ∷ Text ∷ LineLF ∷ LineCR ∷ CustomLineTerminator ∷ []

-- the start kind with this number, if there is one
abbrev pub start_of_number : ℕ → Option Kind
start_of_number n = slice_get each_start n

-- the number of the start kind
abbrev pub number_of : Kind → ℕ
number_of NonWordByte = 0
number_of WordByte = 1
number_of Text = 2
number_of LineLF = 3
number_of LineCR = 4
number_of CustomLineTerminator = 5

-- the start kind of a byte, given the line terminator t: the first that fits
abbrev pub start_kind : ℕ → ℕ → Kind
start_kind t b =
    cond (nat_eq b 10) LineLF
    (cond (nat_eq b 13) LineCR
    (cond (nat_eq b t) CustomLineTerminator
    (cond (is_word_byte b) WordByte NonWordByte)))

-- the start kind of an optional look-behind byte
abbrev pub start_kind_of : ℕ → Option ℕ → Kind
start_kind_of t None = Text
start_kind_of t (Some b) = start_kind t b

-- whether a start behind some byte, or behind nothing, has this kind
abbrev pub Occurs : ℕ → Kind → Type 0
Occurs t kind = (p : Option ℕ) × IsUnit p × (start_kind_of t p ≡ kind)
