-- The assertions that the look-behind satisfies: those that hold for every next unit.
use Rattle.std.specs.Prelude.{ℕ, suc, zero, Bool, true, false, Option, Some, None, ◌<◌}
use mathlib.Core.Bool.{◌&&◌}
pub use Rattle.determinize_below.specs.Semantics.{holds}
use Rattle.determinize_below.specs.declared.look.Look.{Look}
use Rattle.determinize_below.specs.declared.look.Look.TheVariants.{Start, StartLF, StartCRLF, WordStartHalfAscii, WordStartHalfUnicode}

-- whether every number below n passes the test
unfoldable pub all_below : ℕ → (ℕ → Bool) → Bool
all_below zero test = true
all_below (suc n) test = test n && all_below n test

-- whether every unit passes the test
unfoldable pub all_units : (Option ℕ → Bool) → Bool
all_units test = test None && all_below 256 (λ b. test (Some b))

-- EOI is a unit, and so is each byte
abbrev pub IsUnit : Option ℕ → Type 0
IsUnit None = Unit {0}
IsUnit (Some b) = b < 256

-- whether the assertion holds after p for every next unit
abbrev pub is_known : Bool → ℕ → Option ℕ → Look → Bool
is_known reverse t p l = all_units (λ q. holds reverse t p q l)

-- the test for a look-behind assertion (Start, StartLF, StartCRLF or a half word start), false for
-- any other
abbrev pub behind_test : Bool → Bool → Bool → Bool → Look → Bool
behind_test start line crlf word Start = start
behind_test start line crlf word StartLF = line
behind_test start line crlf word StartCRLF = crlf
behind_test start line crlf word WordStartHalfAscii = word
behind_test start line crlf word WordStartHalfUnicode = word
behind_test start line crlf word _ = false
