-- Runs from any position of a text, and the rest of a text.
use Rattle.std.specs.Prelude.{◌≡◌, ℕ, List, [], drop}
use Rattle.determinize_below.specs.Semantics.{Match, Nfa, Text, before_at, between, choices, state_at}
use Rattle.ordered_reach.specs.Paths.{IsPath}

-- the choices lead from the state at a position to the pair, and meet no pair twice
abbrev pub IsRunFrom : Nfa → Text → ℕ → ℕ → List ℕ → ℕ × ℕ → Type 0
IsRunFrom nfa text k start cs q = IsPath (choices nfa text) [] (k, start) cs q

-- the run from the state at position k accepts the pattern at position i
abbrev pub AcceptsFrom : Nfa → Text → ℕ → ℕ → List ℕ → ℕ → ℕ → Type 0
AcceptsFrom nfa text k start cs i pattern =
    (s : ℕ) × IsRunFrom nfa text k start cs (i, s) × (state_at nfa s ≡ Match pattern)

-- the text from a position on, with the byte before that position behind it
abbrev pub since : Text → ℕ → Text
since text k = between (before_at text k) (drop k text.bytes) text.ahead
