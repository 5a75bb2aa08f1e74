-- The number of times that a step tries to add a state to a set.
use Rattle.std.specs.Prelude.{ℕ, ◌+◌, Bool, true, cond, Option, List, length}
use Rattle.determinize_below.specs.declared.look.Look.{Look as Assertion}
use Rattle.determinize_below.specs.declared.search.MatchKind.{MatchKind}
use Rattle.determinize_below.specs.Edges.{edges, reach}
use Rattle.determinize_below.specs.Look.{has}
use Rattle.determinize_below.specs.Semantics.{Nfa}
use Rattle.ordered_reach.specs.Reach.{edge_count, joined, nodes_below}
use Rattle.determinize_core.specs.Step.{opened_by, is_reopened, distinct_states, targets}
use Rattle.determinize_start.specs.LookTables.{tables_of, have_after}
use Rattle.determinize_state.specs.Value.{Value}

-- the tries of a closure into the empty set: one for each root, and one for each edge of the states
-- that it lists
abbrev pub tries_of : Nfa → (Assertion → Bool) → List ℕ → ℕ
tries_of nfa holds roots = length roots + edge_count (edges nfa holds) (reach nfa holds roots)

-- the tries for the working list, if the closure is reopened
abbrev pub tries_again : Nfa → Value → Option ℕ → ℕ
tries_again nfa v u = cond (is_reopened nfa v u)
    (tries_of nfa (joined (has v.look_have) (opened_by nfa v u)) (distinct_states v)) 0

-- the tries of a step: those for the working list, and those for the states entered
unfoldable pub tries : Nfa → MatchKind → Value → Option ℕ → ℕ
tries nfa kind v u =
    tries_again nfa v u
    + tries_of nfa (has (have_after (tables_of nfa) u)) (targets nfa kind v u)

-- the number of epsilon edges of the NFA, as if all assertions hold
abbrev pub edges_in_all : Nfa → ℕ
edges_in_all nfa = edge_count (edges nfa (λ look. true)) (nodes_below (length nfa.states))
