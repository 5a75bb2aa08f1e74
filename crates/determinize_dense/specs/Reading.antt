-- What follows a row, and what the rows along a text list.
use Rattle.std.specs.Prelude.{◌≡◌, ◌+◌, ℕ, All, Option, Some, List, [], ◌∷◌, length, slice_get}
use Rattle.determinize_below.specs.Semantics.{Nfa, Text}
use Rattle.determinize_below.specs.Truth.{IsUnit}
use Rattle.determinize_below.specs.declared.search.MatchKind.{MatchKind}
use Rattle.determinize_below.specs.declared.search.MatchKind.TheVariants as kinds
use Rattle.determinize_core.specs.Chain.{chain}
use Rattle.determinize_core.specs.LastMatch.{lists_of}
use Rattle.determinize_core.specs.Walk.{IsLeftmostWalk, ListsAccepted}
use Rattle.determinize_dense.specs.Table.{Table, patterns_at, row_after, row_over}

-- no pattern is listed by the row, nor by a row after any units
abbrev pub IsDead : Table → ℕ → Type 0
IsDead d r = (us : List (Option ℕ)) → All IsUnit us → patterns_at d (row_after d r us) ≡ []

-- the lists of the rows after each of some units
abbrev pub lists_along : Table → ℕ → List (Option ℕ) → List (List ℕ)
lists_along d r [] = []
lists_along d r (u ∷ us) = patterns_at d (row_over d r u) ∷ lists_along d (row_over d r u) us

-- a list for each position of a text: under `All` of exactly the patterns that some run accepts at
-- the position, and under `LeftmostFirst` that of a walk, whose last match is the preferred one
pub record ListsAlong (nfa : Nfa) (kind : MatchKind) (start : ℕ) (text : Text)
    (lists : List (List ℕ)) : Type 0 where
  pub count : length lists ≡ length text.bytes + 1
  pub walk : [] ∷ lists ≡ lists_of (chain nfa kind start text)
  pub all : kind ≡ kinds.All → (i : ℕ) (xs : List ℕ) → slice_get lists i ≡ Some xs
      → ListsAccepted nfa text start i xs
  pub leftmost : kind ≡ kinds.LeftmostFirst → IsLeftmostWalk nfa start text ([] ∷ lists)
