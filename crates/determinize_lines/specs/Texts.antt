-- What a search for the lines of a text is seen as.
use Rattle.std.specs.Prelude.{◌≡◌, ℕ, List, Some, slice_get}
use Rattle.determinize_lines.specs.Finders.{FinderValue}

-- the patterns and the byte that ends a line, and the line that was returned last
pub record TextValue : Type 0 where
  pub finder : FinderValue
  pub line : List ℕ

-- the byte is nowhere in the line
abbrev pub IsUnbroken : ℕ → List ℕ → Type 0
IsUnbroken t line = (i : ℕ) → slice_get line i ≡ Some t → ⊥
