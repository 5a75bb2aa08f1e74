-- The leftmost match of several patterns.
use Rattle.std.specs.Prelude.{◌≡◌, ◌<◌, ◌≤◌, ◌++◌, ℕ, List, None, Option, Some, [], ◌∷◌, map, slice_get, suc}
use Rattle.determinize_below.specs.Semantics.{Text}
use Rattle.determinize_below.specs.declared.search.Match.{Match}
use Rattle.determinize_pattern.specs.Meaning.{Re, ends}

-- each pattern with each end of its matches from the position, most preferred first; the first
-- pattern has the number n
abbrev pub all_ends : ℕ → Text → ℕ → List Re → ℕ → List (ℕ × ℕ)
all_ends t text n [] k = []
all_ends t text n (re ∷ res) k =
    map (λ j. (n, j)) (ends t text re k) ++ all_ends t text (suc n) res k

-- the leftmost match that begins at position `latest` or before: no pattern matches from an earlier
-- position, and of the matches from its start it is the most preferred
abbrev pub IsLeftmostOf : ℕ → List Re → Text → ℕ → Option Match → Type 0
IsLeftmostOf t res text latest None = (k : ℕ) → k ≤ latest → all_ends t text 0 res k ≡ []
IsLeftmostOf t res text latest (Some m) =
    (m.start ≤ latest) × ((k : ℕ) → k < m.start → all_ends t text 0 res k ≡ [])
    × (slice_get (all_ends t text 0 res m.start) 0 ≡ Some (m.pattern, m.end))
