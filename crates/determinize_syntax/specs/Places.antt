-- Places in a text.
use Rattle.std.specs.Prelude.{◌≤◌, length}
use Rattle.determinize_syntax.specs.Spells.{Bytes}
use Rattle.determinize_syntax.specs.declared.error.ParseError.{ParseError}

-- the bytes from the start of the error to before its end are in the text
abbrev pub IsErrorIn : Bytes → ParseError → Type 0
IsErrorIn text e = (e.start ≤ e.end) × (e.end ≤ length text)
