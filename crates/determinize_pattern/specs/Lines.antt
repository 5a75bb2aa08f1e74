-- Patterns whose matches stay in a line, the lines of a text, and the first line with a match.
use Rattle.std.specs.List.{slice_range}
use Rattle.std.specs.Prelude.{◌≡◌, ◌-◌, ◌<◌, ◌≤◌, ◌+◌, ◌++◌, ◌⊎◌, ◌&&◌, ◌||◌, ◌∷◌, ℕ, Bool, List, None, Option, Some, [], false, length, map, not, slice_get, true}
use Rattle.std.specs.Option.{is_none}
use Rattle.determinize_below.specs.Semantics.{Text, after_at, before_at, between, is, is_word_byte}
use Rattle.determinize_below.specs.declared.look.Look.{Look as Assertion}
use Rattle.determinize_below.specs.declared.look.Look.TheVariants.{Start, End, StartLF, EndLF, StartCRLF, EndCRLF}
use Rattle.determinize_below.specs.declared.search.Match.{Match}
use Rattle.determinize_pattern.specs.LeftmostOf.{IsLeftmostOf, all_ends}
use Rattle.determinize_pattern.specs.Meaning.{Byte, Empty, Look, Or, Plus, Re, Then, ends, is_in}

-- whether no class of the pattern has the terminator, and all its assertions pass the test
abbrev pub stays_by : (Assertion → Bool) → ℕ → Re → Bool
stays_by ok t Empty = true
stays_by ok t (Byte ranges) = not (is_in ranges (Some t))
stays_by ok t (Look look) = ok look
stays_by ok t (Then a b) = stays_by ok t a && stays_by ok t b
stays_by ok t (Or a b) = stays_by ok t a && stays_by ok t b
stays_by ok t (Plus greedy a) = stays_by ok t a

-- whether the assertion does not distinguish the terminator from an end of the text
abbrev pub is_of_lines : ℕ → Assertion → Bool
is_of_lines t Start = false
is_of_lines t End = false
is_of_lines t StartCRLF = false
is_of_lines t EndCRLF = false
is_of_lines t StartLF = true
is_of_lines t EndLF = true
is_of_lines t look = not (is_word_byte t)

-- whether no class of the pattern has the terminator, and all its assertions are of lines
abbrev pub stays_in_line : ℕ → Re → Bool
stays_in_line t re = stays_by (is_of_lines t) t re

-- whether all of the patterns stay in a line
abbrev pub all_stay : ℕ → List Re → Bool
all_stay t [] = true
all_stay t (re ∷ res) = stays_in_line t re && all_stay t res

-- whether there is no byte, or it is the terminator
abbrev pub is_edge : ℕ → Option ℕ → Bool
is_edge t u = is_none u || is u t

-- the bytes from a to b begin at the start of a line and end at the end of a line
pub record AreLines (t : ℕ) (text : Text) (a b : ℕ) : Type 0 where
  pub order : a ≤ b
  pub within : b ≤ length text.bytes
  pub starts : is_edge t (before_at text a) ≡ true
  pub stops : is_edge t (after_at text b) ≡ true

-- the bytes from a to b as a text, between the bytes around them
abbrev pub in_place : Text → ℕ → ℕ → Text
in_place text a b = between (before_at text a) (slice_range text.bytes a b) (after_at text b)

-- the bytes from a to b as a text, with nothing around them
abbrev pub alone : Text → ℕ → ℕ → Text
alone text a b = between None (slice_range text.bytes a b) None

-- from a position of a line, a pattern that does not read the terminator has the ends that it has
-- in the line, between the bytes around it
abbrev pub EndsInPlace : Type 0
EndsInPlace = (t : ℕ) (text : Text) (a k b : ℕ) → a + k ≤ b → b ≤ length text.bytes
    → is_edge t (after_at text b) ≡ true → (re : Re) → stays_by (λ look. true) t re ≡ true
    → ends t text re (a + k) ≡ map (λ j. a + j) (ends t (in_place text a b) re k)

-- from a position of a line, a pattern that stays in a line has the ends that it has in the line,
-- as a text
abbrev pub EndsInLine : Type 0
EndsInLine = (t : ℕ) (text : Text) (a k b : ℕ) → AreLines t text a b → a + k ≤ b
    → (re : Re) → stays_in_line t re ≡ true
    → ends t text re (a + k) ≡ map (λ j. a + j) (ends t (alone text a b) re k)

-- the match, from the start of the line on
abbrev pub in_line : ℕ → Match → Match
in_line a m = record { pattern = m.pattern; start = m.start - a; end = m.end - a }

-- if the leftmost match of the text begins in a line, it is that of the line as a text
abbrev pub LeftmostInLine : Type 0
LeftmostInLine = (t : ℕ) (res : List Re) (text : Text) (a b : ℕ) → AreLines t text a b
    → all_stay t res ≡ true → (latest : ℕ) (m : Match) → IsLeftmostOf t res text latest (Some m)
    → a ≤ m.start → m.start ≤ b
    → IsLeftmostOf t res (alone text a b) (b - a) (Some (in_line a m))

-- a line in which no match of the text begins has no match as a text
abbrev pub NoneInLine : Type 0
NoneInLine = (t : ℕ) (res : List Re) (text : Text) (a b : ℕ) → AreLines t text a b
    → all_stay t res ≡ true → ((k : ℕ) → a ≤ k → k ≤ b → all_ends t text 0 res k ≡ [])
    → IsLeftmostOf t res (alone text a b) (b - a) None

-- the leftmost match of a line as a text is the preferred match of all the text from its start
abbrev pub SomeInLine : Type 0
SomeInLine = (t : ℕ) (res : List Re) (text : Text) (a b : ℕ) → AreLines t text a b
    → all_stay t res ≡ true → (latest : ℕ) (m : Match)
    → IsLeftmostOf t res (alone text a b) latest (Some m) → a + m.start ≤ b
    → slice_get (all_ends t text 0 res (a + m.start)) 0 ≡ Some (m.pattern, a + m.end)

-- the bytes from a to b are a line: it ends before a terminator or at the end of all bytes; after a
-- terminator at the end of all bytes there is no line
pub record IsLine (t : ℕ) (bytes : List ℕ) (a b : ℕ) : Type 0 where
  pub begun : a < length bytes
  pub order : a ≤ b
  pub within : b ≤ length bytes
  pub starts : (a ≡ 0) ⊎ (slice_get bytes (a - 1) ≡ Some t)
  pub stops : (b ≡ length bytes) ⊎ (slice_get bytes b ≡ Some t)
  pub unbroken : (i : ℕ) → a ≤ i → i < b → slice_get bytes i ≡ Some t → ⊥

-- the patterns have a match in the text of these bytes
abbrev pub HasMatchAlone : ℕ → List Re → List ℕ → Type 0
HasMatchAlone t res bytes =
    (m : Match) × IsLeftmostOf t res (between None bytes None) (length bytes) (Some m)

-- no line of the bytes has a match; or the line from a to b has one, and no line before it has
abbrev pub IsFirstLine : ℕ → List Re → List ℕ → Option (ℕ × ℕ) → Type 0
IsFirstLine t res bytes None =
    (c d : ℕ) → IsLine t bytes c d → HasMatchAlone t res (slice_range bytes c d) → ⊥
IsFirstLine t res bytes (Some (a, b)) =
    IsLine t bytes a b × HasMatchAlone t res (slice_range bytes a b)
    × ((c d : ℕ) → c < a → IsLine t bytes c d
    → HasMatchAlone t res (slice_range bytes c d) → ⊥)

-- if the bytes have no match, no line of them has one, also with a terminator after the bytes
abbrev pub NoneIsFirst : Type 0
NoneIsFirst = (t : ℕ) (res : List Re) (bytes whole : List ℕ)
    → (whole ≡ bytes) ⊎ (whole ≡ bytes ++ t ∷ []) → all_stay t res ≡ true
    → IsLeftmostOf t res (between None bytes None) (length bytes) None
    → IsFirstLine t res whole None

-- if they have one, the line in which the leftmost match ends is the first line with a match
abbrev pub SomeIsFirst : Type 0
SomeIsFirst = (t : ℕ) (res : List Re) (bytes whole : List ℕ)
    → (whole ≡ bytes) ⊎ (whole ≡ bytes ++ t ∷ []) → all_stay t res ≡ true → (m : Match)
    → IsLeftmostOf t res (between None bytes None) (length bytes) (Some m)
    → (a b : ℕ) → IsLine t whole a b → a ≤ m.end → m.end ≤ b
    → IsFirstLine t res whole (Some (a, b))
