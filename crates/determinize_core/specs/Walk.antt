-- The theorem: the patterns that the states of a walk list, by the runs of the NFA. A match is
-- delayed by one unit, so the list at index i + 1 has what matches at position i.
use Rattle.std.specs.List.{AllPairs, IsDistinct}
use Rattle.std.specs.Option.{option_map, option_or}
use Rattle.std.specs.Prelude.{◌≡◌, ℕ, suc, Option, Some, None, List, [], ◌∷◌, drop, nat_eq, slice_get, Contains, ◌↔◌}
use Rattle.determinize_below.specs.Semantics.{Nfa, Text, Accepts, IsBestRun, IsPreferredRun}
use Rattle.determinize_below.specs.declared.search.HalfMatch.{HalfMatch}
use Rattle.ordered_reach.specs.Paths.{Before}

-- the list has exactly the patterns that some run accepts at position i, each once, best run first
pub record ListsAccepted (nfa : Nfa) (text : Text) (start i : ℕ) (xs : List ℕ) : Type 0 where
  pub accepted : (x : ℕ) → (Contains xs x) ↔ ((cs : List ℕ) × Accepts nfa text start cs i x)
  pub once : IsDistinct nat_eq xs
  pub best_first : AllPairs (λ x y. (cs : List ℕ) × (ds : List ℕ)
      × IsBestRun nfa text start cs i x × IsBestRun nfa text start ds i y × Before cs ds) xs

-- the first pattern of the last list that is not empty, and the index of that list, counted from n
abbrev pub last_listed : ℕ → List (List ℕ) → Option HalfMatch
last_listed n [] = None
last_listed n (patterns ∷ lists) = option_or (last_listed (suc n) lists)
    (option_map (λ pattern. record { pattern = pattern; offset = n }) (slice_get patterns 0))

-- under `All`: the list at index i + 1 has what matches at position i
pub record IsWalkOfAll (nfa : Nfa) (start : ℕ) (text : Text) (lists : List (List ℕ)) : Type 0 where
  pub matches : (i : ℕ) (xs : List ℕ) → slice_get lists (suc i) ≡ Some xs
      → ListsAccepted nfa text start i xs

-- under `LeftmostFirst`: the last match that is listed is that of the most preferred run; if there
-- is none, no run accepts; and each pattern that is listed is accepted by some run
pub record IsLeftmostWalk (nfa : Nfa) (start : ℕ) (text : Text) (lists : List (List ℕ))
    : Type 0 where
  pub preferred : (m : HalfMatch) → last_listed 0 (drop 1 lists) ≡ Some m
      → (cs : List ℕ) × IsPreferredRun nfa text start cs m.offset m.pattern
  pub none : last_listed 0 (drop 1 lists) ≡ None
      → (cs : List ℕ) (i pattern : ℕ) → Accepts nfa text start cs i pattern → ⊥
  pub matches : (i : ℕ) (xs : List ℕ) → slice_get lists (suc i) ≡ Some xs
      → (x : ℕ) → Contains xs x → (cs : List ℕ) × Accepts nfa text start cs i x
