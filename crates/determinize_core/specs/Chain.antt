-- The values of a walk over a text.
use Rattle.std.specs.Prelude.{◌≡◌, ℕ, suc, Option, Some, List, [], ◌∷◌, drop, length, map, slice_get}
use Rattle.std.specs.List.{range_with_len}
use Rattle.determinize_below.specs.declared.search.MatchKind.{MatchKind}
use Rattle.determinize_below.specs.Semantics.{Nfa, Text, after_at}
use Rattle.determinize_core.specs.Step.{start_value, step}
use Rattle.determinize_state.specs.Value.{Value}

-- a value, and the values after each of the units
abbrev pub future : Nfa → MatchKind → Value → List (Option ℕ) → List Value
future nfa kind v [] = v ∷ []
future nfa kind v (u ∷ us) = v ∷ future nfa kind (step nfa kind v u) us

-- the last of these values
abbrev pub value_after : Nfa → MatchKind → Value → List (Option ℕ) → Value
value_after nfa kind v [] = v
value_after nfa kind v (u ∷ us) = value_after nfa kind (step nfa kind v u) us

-- the units of a text: its bytes, and then the byte ahead or EOI
abbrev pub units : Text → List (Option ℕ)
units text = map (after_at text) (range_with_len 0 (suc (length text.bytes)))

-- the values of the walk from a state over a text
unfoldable pub chain : Nfa → MatchKind → ℕ → Text → List Value
chain nfa kind s text = future nfa kind (start_value nfa s text.behind) (units text)

-- the values from index j on are the future of the value at j over the remaining units
abbrev pub FollowsItself : Nfa → MatchKind → Text → List Value → Type 0
FollowsItself nfa kind text values = (j : ℕ) (v : Value) → slice_get values j ≡ Some v
    → drop j values ≡ future nfa kind v (drop j (units text))
