-- Examples: the start kinds of small searches, and the look-behind of start kinds and of single
-- units.
use Rattle.std.specs.Prelude.{◌≡◌, ℕ, Bool, true, false, List, [], ◌∷◌, Option, Some, None, codes, slice_get}
use Rattle.determinize_start.specs.LookTables.{Tables, tables, start_have, start_from_word, start_half_crlf, have_after, from_word_after, half_crlf_after}
use Rattle.determinize_start.specs.StartKinds.{byte_before, start_kind, start_kind_of}
use Rattle.determinize_start.specs.declared.start.Start.{Start as Kind}
use Rattle.determinize_start.specs.declared.start.Start.TheVariants.{NonWordByte, WordByte, Text, LineLF, LineCR, CustomLineTerminator}

-- the start kind of a forward search from this index, with the line terminator `\n`
abbrev pub forward : List ℕ → ℕ → Kind
forward haystack start = start_kind_of 10 (byte_before haystack start)

-- the start kind of a reverse search up to this index, with the line terminator `\n`
abbrev pub reversed : List ℕ → ℕ → Kind
reversed haystack end = start_kind_of 10 (slice_get haystack end)

-- forward: the empty haystack from 1 and from 0; abc, and abc behind a line feed, from 0; from 1,
-- behind a line feed, a carriage return, a letter and a space
abbrev pub ForwardRows : Type 0
ForwardRows =
    (forward [] 1 ≡ Text)
    × (forward [] 0 ≡ Text)
    × (forward (codes "abc") 0 ≡ Text)
    × (forward (10 ∷ codes "abc") 0 ≡ Text)
    × (forward (10 ∷ codes "abc") 1 ≡ LineLF)
    × (forward (13 ∷ codes "abc") 1 ≡ LineCR)
    × (forward (codes "abc") 1 ≡ WordByte)
    × (forward (codes " abc") 1 ≡ NonWordByte)

-- reverse: the empty haystack to 0; abc to its end, and with a line feed to its end; then up to a
-- line feed, a carriage return, a letter and a space
abbrev pub ReverseRows : Type 0
ReverseRows =
    (reversed [] 0 ≡ Text)
    × (reversed (codes "abc") 3 ≡ Text)
    × (reversed (97 ∷ 98 ∷ 99 ∷ 10 ∷ []) 4 ≡ Text)
    × (reversed (97 ∷ 98 ∷ 99 ∷ 10 ∷ 122 ∷ []) 3 ≡ LineLF)
    × (reversed (97 ∷ 98 ∷ 99 ∷ 13 ∷ 122 ∷ []) 3 ≡ LineCR)
    × (reversed (codes "abc") 2 ≡ WordByte)
    × (reversed (codes "abc ") 3 ≡ NonWordByte)

-- bytes, with the line terminators a and carriage return
abbrev pub ByteRows : Type 0
ByteRows =
    (start_kind 97 97 ≡ CustomLineTerminator)
    × (start_kind 97 98 ≡ WordByte)
    × (start_kind 97 10 ≡ LineLF)
    × (start_kind 13 13 ≡ LineCR)
    × (start_kind 13 10 ≡ LineLF)

-- the look-behind of a start kind: look-have, from-word and half-CRLF
abbrev look_behind : Tables → Kind → ℕ × Bool × Bool
look_behind t kind = (start_have t kind, start_from_word t kind, start_half_crlf t kind)

-- it is this for an NFA with these assertions
abbrev IsLookBehind : ℕ → Bool → ℕ → Kind → ℕ → Bool → Bool → Type 0
IsLookBehind any reverse terminator kind have from_word half =
    look_behind (tables reverse terminator any) kind ≡ (have, from_word, half)

-- for an NFA with Start, StartLF, StartCRLF and WordAscii; the line terminators are a line feed, a
-- carriage return, x, a and a semicolon
abbrev pub LookBehindRows : Type 0
LookBehindRows =
    IsLookBehind 0x55 false 10 NonWordByte 0x14000 false false
    × IsLookBehind 0x55 false 10 WordByte 0 true false
    × IsLookBehind 0x55 false 10 Text 0x14015 false false
    × IsLookBehind 0x55 false 10 LineLF 0x14014 false false
    × IsLookBehind 0x55 true 10 LineLF 0x14004 false true
    × IsLookBehind 0x55 true 120 LineLF 0x14000 false true
    × IsLookBehind 0x55 false 10 LineCR 0x14000 false true
    × IsLookBehind 0x55 true 10 LineCR 0x14010 false false
    × IsLookBehind 0x55 false 13 LineCR 0x14004 false true
    × IsLookBehind 0x55 false 97 CustomLineTerminator 0x4 true false
    × IsLookBehind 0x55 false 59 CustomLineTerminator 0x14004 false false

-- for NFAs with only StartLF, only Start and only WordAscii
abbrev pub ClassRows : Type 0
ClassRows =
    IsLookBehind 0x4 false 10 Text 0x14 false false
    × IsLookBehind 0x4 false 10 LineLF 0x14 false false
    × IsLookBehind 0x4 false 10 LineCR 0 false false
    × IsLookBehind 0x4 true 10 LineLF 0x4 false false
    × IsLookBehind 0x4 true 10 LineCR 0 false false
    × IsLookBehind 0x1 false 10 Text 0x1 false false
    × IsLookBehind 0x1 false 10 WordByte 0 false false
    × IsLookBehind 0x40 false 10 LineLF 0x14000 false false

-- the look-behind after a step over a unit
abbrev look_behind_after : Tables → Option ℕ → ℕ × Bool × Bool
look_behind_after t u = (have_after t u, from_word_after t u, half_crlf_after t u)

-- it is this after a forward step, for an NFA with these assertions and the line terminator `\n`
abbrev IsLookBehindAfter : ℕ → Option ℕ → ℕ → Bool → Bool → Type 0
IsLookBehindAfter any unit have from_word half =
    look_behind_after (tables false 10 any) unit ≡ (have, from_word, half)

-- for NFAs with only StartLF, only StartCRLF and only WordAscii, over a line feed, a carriage
-- return, a and EOI
abbrev pub StepRows : Type 0
StepRows =
    IsLookBehindAfter 0x4 (Some 10) 0x4 false false
    × IsLookBehindAfter 0x4 (Some 13) 0 false false
    × IsLookBehindAfter 0x4 (Some 97) 0 false false
    × IsLookBehindAfter 0x4 None 0 false false
    × IsLookBehindAfter 0x10 (Some 10) 0x14 false false
    × IsLookBehindAfter 0x10 (Some 13) 0 false true
    × IsLookBehindAfter 0x40 (Some 97) 0 true false
    × IsLookBehindAfter 0x40 None 0x14000 false false

-- an NFA without assertions has an empty look-behind at the start
abbrev pub NoLookBehind : Type 0
NoLookBehind =
    (reverse : Bool) (t : ℕ) (kind : Kind) → IsLookBehind 0 reverse t kind 0 false false
