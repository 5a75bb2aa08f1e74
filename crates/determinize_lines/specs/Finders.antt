-- What a search for lines is seen as, and what it finds.
use Rattle.std.specs.List.{slice_range}
use Rattle.std.specs.Prelude.{◌≡◌, ◌-◌, ◌<◌, ◌≤◌, ◌⊎◌, ℕ, List, None, Option, Some, length, slice_get}
use Rattle.std.specs.declared.ops.Range.{Range}
use Rattle.determinize_pattern.specs.Lines.{HasMatchAlone, IsLine}
use Rattle.determinize_regex.specs.Regexes.{RegexValue, meanings}

-- the patterns of a regex, and the byte that ends a line
pub record FinderValue : Type 0 where
  pub regex : RegexValue
  pub terminator : ℕ

-- the patterns have a match in these bytes as a text by themselves
abbrev pub IsMatching : FinderValue → List ℕ → Type 0
IsMatching finder = HasMatchAlone finder.regex.terminator (meanings finder.regex)

-- no line of the bytes that begins before an index has a match
abbrev pub NoneBefore : FinderValue → List ℕ → ℕ → Type 0
NoneBefore finder bytes index = (a b : ℕ) → a < index → IsLine finder.terminator bytes a b
    → IsMatching finder (slice_range bytes a b) → ⊥

-- no line of the bytes has a match, or this one is the first that has one
abbrev pub IsFirstWithMatch : FinderValue → List ℕ → Option (Range ℕ) → Type 0
IsFirstWithMatch finder bytes None = (a b : ℕ) → IsLine finder.terminator bytes a b
    → IsMatching finder (slice_range bytes a b) → ⊥
IsFirstWithMatch finder bytes (Some line) = IsLine finder.terminator bytes line.start line.end
    × IsMatching finder (slice_range bytes line.start line.end)
    × NoneBefore finder bytes line.start

-- the first terminator at the index or behind it is at b, or there is none and b is the length
pub record IsStopAfter (t : ℕ) (bytes : List ℕ) (index b : ℕ) : Type 0 where
  pub order : index ≤ b
  pub within : b ≤ length bytes
  pub stops : (b ≡ length bytes) ⊎ (slice_get bytes b ≡ Some t)
  pub unbroken : (i : ℕ) → index ≤ i → i < b → slice_get bytes i ≡ Some t → ⊥

-- the bytes from a to b are around the index, with a terminator or nothing before and behind them
-- and none within
pub record IsAround (t : ℕ) (bytes : List ℕ) (index a b : ℕ) : Type 0 where
  pub low : a ≤ index
  pub starts : (a ≡ 0) ⊎ (slice_get bytes (a - 1) ≡ Some t)
  pub before : (i : ℕ) → a ≤ i → i < index → slice_get bytes i ≡ Some t → ⊥
  pub behind : IsStopAfter t bytes index b
