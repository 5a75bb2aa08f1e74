-- A depth-first search while it runs, and how often it tries to add a state.
use Rattle.std.specs.Prelude.{ℕ, ◌+◌, [], ◌∷◌, ◌++◌, Bool, List, if◌then◌else◌, length}
use Rattle.determinize_below.specs.declared.look.Look.{Look as Assertion}
use Rattle.determinize_below.specs.Edges.{edges, reach_past}
use Rattle.determinize_below.specs.Members.{has_id}
use Rattle.determinize_below.specs.Semantics.{Nfa}
use Rattle.ordered_reach.specs.Reach.{edge_count}

-- what a visit adds to the states visited so far: the state, if it is new
abbrev pub entered : List ℕ → ℕ → List ℕ
entered met id = if has_id met id then [] else id ∷ []

-- what is pending after a visit: the edges of the state, if it is new, and the rest
abbrev pub pending_after : Nfa → (Assertion → Bool) → List ℕ → ℕ → List ℕ → List ℕ
pending_after nfa holds met id rest = if has_id met id then rest else edges nfa holds id ++ rest

-- the number of tries that are left, given the states visited so far and those pending
abbrev pub tries_left : Nfa → (Assertion → Bool) → List ℕ → List ℕ → ℕ
tries_left nfa holds met pending =
    length pending + edge_count (edges nfa holds) (reach_past nfa holds met pending)
