-- The edges of a run, by the ids of states, and the runs to a pair of a position and a state.
use Rattle.std.specs.Prelude.{ℕ, Bool, Option, List, [], slice_get}
use Rattle.determinize_below.specs.Edges.{edges, target}
use Rattle.determinize_below.specs.Semantics.{Nfa, Text, after_at, before_at, choices, holds}
use Rattle.determinize_below.specs.declared.look.Look.{Look as Assertion}
use Rattle.ordered_reach.specs.Paths.{IsPath}

-- whether the assertion holds between an optional byte and a unit
abbrev pub truth : Nfa → Option ℕ → Option ℕ → Assertion → Bool
truth nfa p q look = holds nfa.reverse nfa.terminator p q look

-- the epsilon transitions at a position, under the assertions that hold there
abbrev pub true_edges : Nfa → Text → ℕ → ℕ → List ℕ
true_edges nfa text i = edges nfa (truth nfa (before_at text i) (after_at text i))

-- the transitions over the next byte of the text; there is none at the last position
abbrev pub byte_edges : Nfa → Text → ℕ → ℕ → List ℕ
byte_edges nfa text i = target nfa (slice_get text.bytes i)

-- the choices are a run from the start state at position 0 to the given pair, which meets no pair
-- twice
abbrev pub IsRun : Nfa → Text → ℕ → List ℕ → ℕ × ℕ → Type 0
IsRun nfa text start cs q = IsPath (choices nfa text) [] (0, start) cs q
