-- The patterns with a match that ends at a position.
use Rattle.std.specs.Prelude.{◌≡◌, ◌<◌, ◌≤◌, ◌↔◌, ◌⊎◌, ℕ, Contains, List}
use Rattle.std.specs.List.{AllPairs}
use Rattle.determinize_below.specs.Semantics.{Text}
use Rattle.determinize_pattern.specs.LeftmostOf.{all_ends}
use Rattle.determinize_pattern.specs.Meaning.{Re}

-- of matches that end at position i, some match of pattern x begins before each of pattern y, or
-- where it does, and then x is the earlier pattern
abbrev pub IsBetterAt : ℕ → List Re → Text → ℕ → ℕ → ℕ → ℕ → Type 0
IsBetterAt t res text latest i x y = (k : ℕ) × (k ≤ latest)
    × Contains (all_ends t text 0 res k) (x, i)
    × ((l : ℕ) → l ≤ latest → Contains (all_ends t text 0 res l) (y, i)
    → (k < l) ⊎ ((k ≡ l) × (x < y)))

-- the list has the patterns with a match that ends at position i and begins at `latest` or before,
-- the best first
pub record ArePatternsAt (t : ℕ) (res : List Re) (text : Text) (latest i : ℕ)
    (xs : List ℕ) : Type 0 where
  pub accepted : (x : ℕ) → (Contains xs x)
      ↔ ((k : ℕ) × (k ≤ latest) × Contains (all_ends t text 0 res k) (x, i))
  pub best_first : AllPairs (IsBetterAt t res text latest i) xs
