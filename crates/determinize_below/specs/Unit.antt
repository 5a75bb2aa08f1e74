-- Units of input, seen as an optional byte: each EOI is `None`.
use Rattle.std.specs.Prelude.{ℕ, Option, Some, None}
use Rattle.determinize_below.specs.declared.alphabet.UnitKind.{UnitKind}
use Rattle.determinize_below.specs.declared.alphabet.UnitKind.TheVariants.{U8, Eoi}

-- the value of a `Unit`: a byte, or EOI with its number
pub data Symbol : Type 0 where
  Byte : ℕ → Symbol
  End : ℕ → Symbol

-- the unit of the program as data
abbrev pub symbol_of : UnitKind → Symbol
symbol_of (U8 b) = Byte b
symbol_of (Eoi n) = End n

-- the inverse of `symbol_of`
abbrev pub kind_of : Symbol → UnitKind
kind_of (Byte b) = U8 b
kind_of (End n) = Eoi n

-- the byte of the unit, `None` for EOI
abbrev pub byte_of : Symbol → Option ℕ
byte_of (Byte b) = Some b
byte_of (End n) = None

-- the number of an EOI, 0 for a byte
abbrev pub eoi_number : Symbol → ℕ
eoi_number (Byte b) = 0
eoi_number (End n) = n
