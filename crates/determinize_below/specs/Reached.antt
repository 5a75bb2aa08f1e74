-- The states that runs reach at a position: under the assertions that hold there, or under those
-- satisfied by the look-behind only, before the next unit is known.
use Rattle.std.specs.Prelude.{ℕ, Bool, Option, List}
use Rattle.determinize_below.specs.declared.look.Look.{Look as Assertion}
use Rattle.determinize_below.specs.Edges.{edges, is_capture}
use Rattle.determinize_below.specs.Semantics.{Nfa, Text, before_at, choices}
use Rattle.determinize_below.specs.Positions.{true_edges, byte_edges}
use Rattle.determinize_below.specs.Truth as truths
use Rattle.ordered_reach.specs.Runs.{ListsReached, known_at, run_edges}

-- whether the assertion holds after an optional byte for every next unit
unfoldable pub known : Nfa → Option ℕ → Assertion → Bool
known nfa p look = truths.is_known nfa.reverse nfa.terminator p look

-- the epsilon transitions at a position, under the assertions satisfied by the look-behind
abbrev pub known_edges : Nfa → Text → ℕ → ℕ → List ℕ
known_edges nfa text i = edges nfa (known nfa (before_at text i))

-- the edges of the product graph where position i has only the look-behind
abbrev pub known_choices : Nfa → Text → ℕ → ℕ × ℕ → List (ℕ × ℕ)
known_choices nfa text i =
    run_edges (known_at i (known_edges nfa text) (true_edges nfa text)) (byte_edges nfa text)

-- the list has the states, except captures, in which some run ends at the position, each once, by
-- the least such run
abbrev pub IsReached : Nfa → Text → ℕ → ℕ → List ℕ → Type 0
IsReached nfa text start i xs = ListsReached (choices nfa text) (is_capture nfa) start i xs

-- the list of `IsReached` where the position has only the look-behind
abbrev pub IsKnownReached : Nfa → Text → ℕ → ℕ → List ℕ → Type 0
IsKnownReached nfa text start i xs =
    ListsReached (known_choices nfa text i) (is_capture nfa) start i xs
