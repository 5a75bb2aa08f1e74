-- What a table means, and how many states it has.
use Rattle.std.specs.Prelude.{◌≡◌, ◌<◌, ◌↔◌, ℕ, Bool, All, cond, Option, List}
use Rattle.std.specs.Prelude.{length, Contains}
use Rattle.determinize_below.specs.Semantics.{Nfa}
use Rattle.determinize_below.specs.Truth.{IsUnit}
use Rattle.determinize_below.specs.declared.search.MatchKind.{MatchKind}
use Rattle.determinize_core.specs.Chain.{value_after}
use Rattle.determinize_engine.specs.States.{EachApart}
use Rattle.determinize_core.specs.Step.{start_value}
use Rattle.determinize_core.specs.Value.{Value}
use Rattle.determinize_dense.specs.Table.{Table, patterns_at, row_after, start_row}

-- the state of the NFA from which an anchored or an unanchored search starts
abbrev pub start_in : Nfa → Bool → ℕ
start_in nfa anchored = cond anchored nfa.start_anchored nfa.start_unanchored

-- the value after a start that follows a byte or nothing, and units
abbrev pub value_from : Nfa → MatchKind → Bool → Option ℕ → List (Option ℕ) → Value
value_from nfa kind anchored p us = value_after nfa kind
    (start_value nfa (start_in nfa anchored) p) us

-- from each start and along all units, the row lists the patterns that the state of the walk lists
abbrev pub IsDfaOf : Nfa → MatchKind → Table → Type 0
IsDfaOf nfa kind d = (anchored : Bool) (p : Option ℕ) (us : List (Option ℕ)) → IsUnit p
    → All IsUnit us
    → patterns_at d (row_after d (start_row nfa d anchored p) us)
    ≡ (value_from nfa kind anchored p us).patterns

-- the value is that after some units from a start
abbrev pub IsReachedValue : Nfa → MatchKind → Value → Type 0
IsReachedValue nfa kind v = (anchored : Bool) × (p : Option ℕ) × (us : List (Option ℕ))
    × IsUnit p × All IsUnit us × (v ≡ value_from nfa kind anchored p us)

-- exactly n values are reached
abbrev pub HasStates : Nfa → MatchKind → ℕ → Type 0
HasStates nfa kind n = (vs : List Value) × EachApart vs × (length vs ≡ n)
    × ((v : Value) → Contains vs v ↔ IsReachedValue nfa kind v)

-- more than n values are reached
abbrev pub HasMoreStates : Nfa → MatchKind → ℕ → Type 0
HasMoreStates nfa kind n = (vs : List Value) × EachApart vs × (n < length vs)
    × ((v : Value) → Contains vs v → IsReachedValue nfa kind v)

-- the number of states is one number, and more than m are reached only if m is below it
abbrev pub EachCountIsOne : Type 0
EachCountIsOne = (nfa : Nfa) (kind : MatchKind) (n m : ℕ) → HasStates nfa kind n
    → (HasStates nfa kind m → n ≡ m) × (HasMoreStates nfa kind m → m < n)
