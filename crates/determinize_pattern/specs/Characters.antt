-- Classes of characters, as the bytes of their UTF-8.
use Rattle.std.specs.Char.{IsScalar, encode_utf8}
use Rattle.std.specs.Prelude.{◌≡◌, ◌≤◌, ◌↔◌, ℕ, Bool, IsUtf8, List, length, map, slice_range, true}
use Rattle.determinize_below.specs.Semantics.{Text}
use Rattle.determinize_pattern.specs.Meaning.{Matches, Re}
use Rattle.determinize_pattern.specs.declared.chars.ClassUnicodeRange.{ClassUnicodeRange}

-- the first and the last character of each range
abbrev pub char_pairs : List ClassUnicodeRange → List (ℕ × ℕ)
char_pairs ranges = map (λ r. (r.start, r.end)) ranges

-- the bytes from i to j are the UTF-8 of a character that passes the test
abbrev pub IsCharFrom : (ℕ → Bool) → List ℕ → ℕ → ℕ → Type 0
IsCharFrom test bytes i j = (c : ℕ) × IsScalar c × (test c ≡ true) × (i ≤ j) × (j ≤ length bytes)
    × (slice_range bytes i j ≡ encode_utf8 c)

-- the pattern matches exactly the UTF-8 of one character that passes the test
abbrev pub IsCharClass : (ℕ → Bool) → Re → Type 0
IsCharClass test re = (t : ℕ) (text : Text) (i j : ℕ)
    → Matches t text re i j ↔ IsCharFrom test text.bytes i j

-- in a text that is UTF-8, what the pattern matches is UTF-8
abbrev pub ReadsCharacters : Re → Type 0
ReadsCharacters re = (t : ℕ) (text : Text) → IsUtf8 text.bytes → (i j : ℕ)
    → Matches t text re i j → IsUtf8 (slice_range text.bytes i j)
