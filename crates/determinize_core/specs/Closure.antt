-- What a closure adds to a set.
use Rattle.std.specs.Prelude.{◌≡◌, ℕ, ◌∷◌, ◌++◌, [], List}
use Rattle.determinize_below.specs.Edges.{reach_past}
use Rattle.determinize_below.specs.Look.{has}
use Rattle.determinize_below.specs.Members.{Members}
use Rattle.determinize_below.specs.Semantics.{Nfa}
use Rattle.ordered_reach.specs.Runs.{IsBeginning}

-- the states that the closure of a state adds to a set, given the states in the set and the
-- assertions that hold
abbrev pub closure_of : Nfa → ℕ → List ℕ → ℕ → List ℕ
closure_of nfa look_have held start = reach_past nfa (has look_have) held (start ∷ [])

-- the new set is the old one with a prefix of what was to be added
pub record AddsBeginning (old new : Members) (added : List ℕ) : Type 0 where
  pub capacity : new.capacity ≡ old.capacity
  pub part : (more : List ℕ) × (new.ids ≡ old.ids ++ more) × IsBeginning more added
