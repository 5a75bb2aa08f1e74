-- The byte encoding of a state. It is canonical: each value has exactly one. The bits of its first
-- byte and the offsets in its header are the constants of src/state/bytes.rt.
use Rattle.std.specs.Prelude.{◌≡◌, ℕ, ◌+◌, ◌*◌, ◌/◌, ◌%◌, Bool, true, false, not, List, [], ◌∷◌, ◌++◌, bit_and, nat_eq, zero, length, take, drop, slice_index, slice_set, if◌then◌else◌}
use Rattle.std.specs.Int.{to_le_bytes, from_le_bytes, w32}
use Rattle.determinize_state.specs.Value.{Value, IsValue, is_nonempty}
use Rattle.determinize_state.specs.Varint.{deltas, ids_from}
use Rattle.determinize_state.specs.declared.state.bytes.TheConstants.{COUNT, EXPLICIT, FROM_WORD, HALF_CRLF, LOOK_HAVE, LOOK_NEED, MATCH, PATTERNS}

-- the weight if the flag is set, otherwise 0
abbrev pub bit : Bool → ℕ → ℕ
bit flag weight = if flag then weight else 0

-- whether the patterns are explicit: all lists except the empty one and the one of 0 only
abbrev pub is_explicit : List ℕ → Bool
is_explicit [] = false
is_explicit (zero ∷ []) = false
is_explicit _ = true

-- the first byte: whether some pattern matches, whether the patterns are explicit, and the two
-- flags
abbrev pub flags : Value → ℕ
flags value =
    bit (is_nonempty value.patterns) MATCH + bit (is_explicit value.patterns) EXPLICIT
    + bit value.from_word FROM_WORD + bit value.half_crlf HALF_CRLF

-- a number in four bytes, little-endian
abbrev pub word : ℕ → List ℕ
word number = to_le_bytes w32 number

-- each number in four bytes
abbrev pub words : List ℕ → List ℕ
words [] = []
words (number ∷ numbers) = word number ++ words numbers

-- the number of patterns and then the patterns, if they are explicit
abbrev pub pattern_bytes : List ℕ → List ℕ
pattern_bytes ids = if is_explicit ids then word (length ids) ++ words ids else []

-- the encoding of a value
unfoldable pub spell : Value → List ℕ
spell value =
    flags value ∷ word value.look_have ++ word value.look_need ++ pattern_bytes value.patterns
    ++ deltas 0 value.states

-- the number in the four bytes at an offset
abbrev pub number_at : List ℕ → ℕ → ℕ
number_at bytes at = from_le_bytes w32 (take 4 (drop at bytes))

-- the bytes with a number written into the four at an offset
abbrev pub with_word : List ℕ → ℕ → ℕ → List ℕ
with_word bytes at number =
    slice_set (slice_set (slice_set (slice_set bytes
    at (number % 256)) (at + 1) (number / 256 % 256))
    (at + 2) (number / 65536 % 256)) (at + 3) (number / 16777216 % 256)

-- the numbers in the bytes, four bytes each
abbrev pub numbers_in : List ℕ → List ℕ
numbers_in (a ∷ b ∷ c ∷ d ∷ bytes) = from_le_bytes w32 (a ∷ b ∷ c ∷ d ∷ []) ∷ numbers_in bytes
numbers_in _ = []

-- whether the first byte has this flag
abbrev pub has_flag : List ℕ → ℕ → Bool
has_flag bytes weight = not (nat_eq (bit_and (slice_index bytes 0) weight) 0)

-- the offset of the NFA states, after the patterns
abbrev pub start_in : List ℕ → ℕ
start_in bytes = if has_flag bytes EXPLICIT then PATTERNS + 4 * number_at bytes COUNT else COUNT

-- the patterns of the bytes: the explicit ones, or 0 only if they are implicit and some pattern
-- matches
abbrev pub patterns_in : List ℕ → List ℕ
patterns_in bytes =
    if has_flag bytes EXPLICIT
    then numbers_in (take (4 * number_at bytes COUNT) (drop PATTERNS bytes))
    else (if has_flag bytes MATCH then 0 ∷ [] else [])

-- the value that the bytes encode
unfoldable pub value_of : List ℕ → Value
value_of bytes = record {
  from_word = has_flag bytes FROM_WORD;
  half_crlf = has_flag bytes HALF_CRLF;
  look_have = number_at bytes LOOK_HAVE;
  look_need = number_at bytes LOOK_NEED;
  patterns = patterns_in bytes;
  states = ids_from 0 0 1 (drop (start_in bytes) bytes);
}

-- the bytes are the encoding of a value
pub record IsSpelled (bytes : List ℕ) : Type 0 where
  pub valid : IsValue (value_of bytes)
  pub spelled : spell (value_of bytes) ≡ bytes
