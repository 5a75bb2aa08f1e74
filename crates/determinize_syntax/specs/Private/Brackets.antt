-- Brackets as far as they were read.
use Rattle.std.specs.Prelude.{◌≡◌, ◌++◌, [], ℕ, List, codes}
use Rattle.determinize_syntax.specs.Private.Reading.{IsNotAt}
use Rattle.determinize_syntax.specs.declared.cursor.Cursor.{Cursor}
use Rattle.determinize_syntax.specs.Private.Sets.{HasChars}
use Rattle.determinize_syntax.specs.Spells.{Inside, Lists}
use Rattle.determinize_syntax.specs.Words.{Set}
use Rattle.determinize_syntax.specs.declared.bracket.Before.{Before}
use Rattle.determinize_syntax.specs.declared.flags.Flags.{Flags}

-- the text makes of what is listed up to p, with these ranges, what is listed up to q, with those
abbrev pub Extends : Flags → Before → List (ℕ × ℕ) → Before → List (ℕ × ℕ) → List ℕ → Type 0
Extends f p ranges q more t = (s : Set) (u : List ℕ) → Lists f p s u → HasChars s ranges
    → (r : Set) × Lists f q r (u ++ t) × HasChars r more

-- the inside of brackets and the last bracket
abbrev pub IsInside : Flags → List (ℕ × ℕ) → List ℕ → Type 0
IsInside f ranges t = (s : Set) × (u : List ℕ) × Inside f s u × HasChars s ranges
    × (t ≡ u ++ codes "]")

-- what is listed up to p, with these ranges; of nothing, no bracket follows
abbrev pub IsBegun : Flags → Before → List (ℕ × ℕ) → Cursor → List ℕ → Type 0
IsBegun f p ranges cursor t = (s : Set) × Lists f p s t × HasChars s ranges
    × (t ≡ [] → IsNotAt 0x5D cursor)
