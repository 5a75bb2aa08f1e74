-- Cycles of `Capture` states.
use Rattle.std.specs.Prelude.{◌≡◌, ◌≤◌, ℕ, zero, suc, true}
use Rattle.determinize_below.specs.Edges.{is_capture}
use Rattle.determinize_below.specs.Semantics.{state_at, Nfa, Node, Capture}

-- the target of a capture, 0 for any other state
abbrev pub capture_next : Node → ℕ
capture_next (Capture next) = next
capture_next _ = 0

-- the state after following this number of captures from s
abbrev pub followed : Nfa → ℕ → ℕ → ℕ
followed nfa zero s = s
followed nfa (suc count) s = capture_next (state_at nfa (followed nfa count s))

-- no cycle consists of captures only
abbrev pub HasNoCaptureCycle : Nfa → Type 0
HasNoCaptureCycle nfa = (s k : ℕ) → ((j : ℕ) → j ≤ k → is_capture nfa (followed nfa j s) ≡ true)
    → followed nfa (suc k) s ≡ s → ⊥
