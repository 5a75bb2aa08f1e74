-- States that are kept, each once, and their indices.
use Rattle.std.specs.Prelude.{◌≡◌, ℕ, false, Option, Some, List, slice_get, MatchOption}
use Rattle.std.specs.List.{list_any}
use Rattle.determinize_state.specs.Equality.{same}
use Rattle.determinize_state.specs.Value.{Value}

-- the index of a value; `None` if it is not among the states
abbrev pub IsIndex : List Value → Value → Option ℕ → Type 0
IsIndex states v index =
    MatchOption index (list_any (same v) states ≡ false) (λ p. slice_get states p ≡ Some v)

-- no two of the values are equal
abbrev pub EachApart : List Value → Type 0
EachApart values = (p q : ℕ) (v : Value) → slice_get values p ≡ Some v → slice_get values q ≡ Some v
    → p ≡ q
