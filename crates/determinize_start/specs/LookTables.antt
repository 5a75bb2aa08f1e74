-- Look-behind: the assertions satisfied at a start and after a unit, and those that the next unit
-- satisfies.
use Rattle.std.specs.Prelude.{◌≡◌, ℕ, Bool, true, false, not, cond, Option, nat_eq}
use mathlib.Core.Bool.{◌&&◌, ◌||◌, beq}
use Rattle.determinize_below.specs.Look.{insert, has_haystack, has_line, has_crlf, has_word}
use Rattle.determinize_below.specs.Semantics.{Nfa, crlf_first, crlf_second, is, is_word, is_word_byte}
use Rattle.std.specs.Option.{is_none}
use Rattle.determinize_below.specs.declared.look.Look.{Look}
use Rattle.determinize_below.specs.declared.look.Look.TheVariants.{Start, End, StartLF, EndLF, StartCRLF, EndCRLF, WordAscii, WordAsciiNegate, WordUnicode, WordUnicodeNegate, WordStartAscii, WordEndAscii, WordStartUnicode, WordEndUnicode, WordStartHalfAscii, WordEndHalfAscii, WordStartHalfUnicode, WordEndHalfUnicode}
use Rattle.determinize_start.specs.StartKinds.{start_kind_of}
use Rattle.determinize_start.specs.declared.start.Start.{Start as Kind}
use Rattle.determinize_start.specs.declared.start.Start.TheVariants.{NonWordByte, WordByte, Text, LineLF, LineCR, CustomLineTerminator}

-- the configuration that look-behind depends on: direction, line terminator and assertions of the
-- NFA
pub record Tables : Type 0 where
  pub reverse : Bool
  pub terminator : ℕ
  pub any : ℕ

-- the configuration with these fields
abbrev pub tables : Bool → ℕ → ℕ → Tables
tables reverse terminator any = record { reverse = reverse; terminator = terminator; any = any }

-- the configuration of an NFA
abbrev pub tables_of : Nfa → Tables
tables_of nfa = tables nfa.reverse nfa.terminator nfa.look_set_any

-- the look-behind of a new state: assertions that hold for every next unit, and the two flags
pub record LookBehindValue : Type 0 where
  pub looks : ℕ
  pub from_word : Bool
  pub half_crlf : Bool

-- the set with the assertion added if the test is true
unfoldable pub insert_where : ℕ → Bool → Look → ℕ
insert_where set test look = cond test (insert set look) set

-- the set of the two WordStartHalf assertions, StartLF, StartCRLF and Start, each if its test is
-- true
unfoldable pub known_set : Bool → Bool → Bool → Bool → ℕ
known_set start line crlf word =
    insert_where
    (insert_where
    (insert_where
    (insert_where
    (insert_where 0 word WordStartHalfAscii)
    word WordStartHalfUnicode)
    line StartLF)
    crlf StartCRLF)
    start Start

-- the look-have of a start kind
unfoldable pub start_have : Tables → Kind → ℕ
start_have t NonWordByte = known_set false false false (has_word t.any)
start_have t WordByte = known_set false false false false
start_have t Text =
    known_set (has_haystack t.any) (has_line t.any) (has_line t.any) (has_word t.any)
start_have t LineLF = known_set false (has_line t.any && nat_eq t.terminator 10)
    (has_line t.any && not t.reverse) (has_word t.any)
start_have t LineCR = known_set false (has_line t.any && nat_eq t.terminator 13)
    (has_crlf t.any && t.reverse) (has_word t.any)
start_have t CustomLineTerminator =
    known_set false (has_line t.any) false (has_word t.any && not (is_word_byte t.terminator))

-- the flag from-word of a start kind
unfoldable pub start_from_word : Tables → Kind → Bool
start_from_word t WordByte = has_word t.any
start_from_word t CustomLineTerminator = has_word t.any && is_word_byte t.terminator
start_from_word t _ = false

-- the flag half-CRLF of a start kind
unfoldable pub start_half_crlf : Tables → Kind → Bool
start_half_crlf t LineLF = has_crlf t.any && t.reverse
start_half_crlf t LineCR = has_crlf t.any && not t.reverse
start_half_crlf t _ = false

-- the look-have at a start, given the byte behind it
unfoldable pub have_at_start : Tables → Option ℕ → ℕ
have_at_start t p = start_have t (start_kind_of t.terminator p)

-- the flag from-word at a start
unfoldable pub from_word_at_start : Tables → Option ℕ → Bool
from_word_at_start t p = start_from_word t (start_kind_of t.terminator p)

-- the flag half-CRLF at a start
unfoldable pub half_crlf_at_start : Tables → Option ℕ → Bool
half_crlf_at_start t p = start_half_crlf t (start_kind_of t.terminator p)

-- the look-have after a step over u
unfoldable pub have_after : Tables → Option ℕ → ℕ
have_after t u = known_set false (has_line t.any && is u t.terminator)
    (has_crlf t.any && is u (crlf_second t.reverse)) (has_word t.any && not (is_word u))

-- the flag from-word after a step over u, set if some state has a transition on u
unfoldable pub from_word_after : Tables → Option ℕ → Bool
from_word_after t u = has_word t.any && is_word u

-- the flag half-CRLF after a step over u, set if some state has a transition on u
unfoldable pub half_crlf_after : Tables → Option ℕ → Bool
half_crlf_after t u = has_crlf t.any && is u (crlf_first t.reverse)

-- the flags of a state describe p, the byte behind it, if the NFA has the class that needs them
pub record IsFlagged (t : Tables) (p : Option ℕ) (from_word half_crlf : Bool) : Type 0 where
  pub word : has_word t.any ≡ true → from_word ≡ is_word p
  pub crlf : has_crlf t.any ≡ true → half_crlf ≡ is p (crlf_first t.reverse)

-- the word assertions that the next unit satisfies, given whether the byte behind and the next one
-- are word bytes
unfoldable pub word_opened : Bool → Bool → Look → Bool
word_opened from_word word WordAscii = not (beq from_word word)
word_opened from_word word WordAsciiNegate = beq from_word word
word_opened from_word word WordUnicode = not (beq from_word word)
word_opened from_word word WordUnicodeNegate = beq from_word word
word_opened from_word word WordStartAscii = not from_word && word
word_opened from_word word WordEndAscii = from_word && not word
word_opened from_word word WordStartUnicode = not from_word && word
word_opened from_word word WordEndUnicode = from_word && not word
word_opened from_word word WordEndHalfAscii = not word
word_opened from_word word WordEndHalfUnicode = not word
word_opened from_word word _ = false

-- the haystack and line assertions that the next unit u satisfies, given whether the byte behind is
-- the first half of a CRLF
unfoldable pub line_opened : Tables → Bool → Option ℕ → Look → Bool
line_opened t half_crlf u End = is_none u
line_opened t half_crlf u EndLF = is_none u || is u t.terminator
line_opened t half_crlf u StartCRLF = half_crlf && not (is u (crlf_second t.reverse))
line_opened t half_crlf u EndCRLF =
    is_none u || is u (crlf_first t.reverse) || (is u (crlf_second t.reverse) && not half_crlf)
line_opened t half_crlf u _ = false

-- the assertions that the next unit u satisfies for a state with these flags, in addition to those
-- in its look-have
unfoldable pub opened : Tables → Bool → Bool → Option ℕ → Look → Bool
opened t from_word half_crlf u look =
    word_opened from_word (is_word u) look || line_opened t half_crlf u look

-- the assertions that no unit satisfies: they are in look-have or do not hold
abbrev pub AreKnownAlone : Tables → Bool → Bool → Option ℕ → Type 0
AreKnownAlone t from_word half_crlf u =
    (opened t from_word half_crlf u Start ≡ false)
    × (opened t from_word half_crlf u StartLF ≡ false)
    × (opened t from_word half_crlf u WordStartHalfAscii ≡ false)
    × (opened t from_word half_crlf u WordStartHalfUnicode ≡ false)
