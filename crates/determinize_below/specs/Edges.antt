-- The transitions of the states of an NFA by their ids, their patterns and assertions, and the
-- epsilon closure.
use Rattle.std.specs.Prelude.{◌≡◌, ◌+◌, ℕ, Bool, true, false, Option, Some, None, List, length, nat_eq}
use Rattle.std.specs.Option.{is_some, option_to_list}
use Rattle.std.specs.List.{count_by, flat_map}
use Rattle.determinize_below.specs.declared.look.Look.{Look as Assertion}
use Rattle.determinize_below.specs.Semantics.{Capture, Look, Match, Nfa, Node, edges_of, state_at, target_of}
use Rattle.ordered_reach.specs.Reach.{member, none_held, ordered}

-- the pattern of a `Match` state
abbrev pub pattern_in : Node → Option ℕ
pattern_in (Match pattern) = Some pattern
pattern_in _ = None

-- whether the state is a capture
abbrev pub tests_capture : Node → Bool
tests_capture (Capture next) = true
tests_capture _ = false

-- the assertion of a `Look` state
abbrev pub assertion_in : Node → Option Assertion
assertion_in (Look look next) = Some look
assertion_in _ = None

-- the targets of the epsilon transitions of the state with this id
abbrev pub edges : Nfa → (Assertion → Bool) → ℕ → List ℕ
edges nfa holds s = edges_of holds (state_at nfa s)

-- the target of the state with this id on a unit, as a list of at most one
abbrev pub target : Nfa → Option ℕ → ℕ → List ℕ
target nfa u s = option_to_list (target_of u (state_at nfa s))

-- whether the state with this id is a capture
abbrev pub is_capture : Nfa → ℕ → Bool
is_capture nfa s = tests_capture (state_at nfa s)

-- the pattern of the state with this id, if it is a `Match`
abbrev pub pattern_of : Nfa → ℕ → Option ℕ
pattern_of nfa s = pattern_in (state_at nfa s)

-- whether the state with this id is a `Match`
abbrev pub is_match : Nfa → ℕ → Bool
is_match nfa s = is_some (pattern_of nfa s)

-- the assertion of the state with this id, if it is a `Look`
abbrev pub assertion_of : Nfa → ℕ → Option Assertion
assertion_of nfa s = assertion_in (state_at nfa s)

-- the patterns of the `Match` states of a list, in order
abbrev pub patterns_of : Nfa → List ℕ → List ℕ
patterns_of nfa xs = flat_map (λ s. option_to_list (pattern_of nfa s)) xs

-- whether the state is a `Match`
abbrev pub is_match_node : Node → Bool
is_match_node node = is_some (pattern_in node)

-- the number of `Match` states
abbrev pub pattern_count : Nfa → ℕ
pattern_count nfa = count_by is_match_node nfa.states

-- the epsilon closure of the roots: each state that a loop-free path of epsilon transitions ends
-- in, once, ordered by the first such root and then by the least path
unfoldable pub reach : Nfa → (Assertion → Bool) → List ℕ → List ℕ
reach nfa holds roots = ordered nat_eq (edges nfa holds) (length nfa.states + 1) none_held roots

-- the epsilon closure along paths that avoid the states in the list, which were visited before
unfoldable pub reach_past : Nfa → (Assertion → Bool) → List ℕ → List ℕ → List ℕ
reach_past nfa holds held roots =
    ordered nat_eq (edges nfa holds) (length nfa.states + 1) (member nat_eq held) roots

-- some state of the NFA tests the assertion
abbrev pub IsTested : Nfa → Assertion → Type 0
IsTested nfa look = (s : ℕ) × (assertion_of nfa s ≡ Some look)
