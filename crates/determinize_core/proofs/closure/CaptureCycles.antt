-- Cycles of captures, and NFAs that have none.
-- Main statements: ascending_captures_have_no_cycle, capture_rows.
-- Used by: `capture_law`.
-- Idea: ids that ascend along captures never return.
use Rattle.determinize_core.proofs.Common.{arith, capture_next, followed, is_capture, Nfa, refl, state_at, suc, true}
use Rattle.determinize_core.proofs.Common.{zero, ℕ, ◌<◌, ◌≡◌, ◌≤◌}
use Rattle.determinize_core.specs.Laws.{AscendingCapturesHaveNoCycle, CapturesAscend}
use Rattle.determinize_core.specs.WorkedRows.{AreCaptureRows, n14}

-- the next state of a capture is above it
next_above : (nfa : Nfa) → CapturesAscend nfa → (s : ℕ) → is_capture nfa s ≡ true → s < capture_next (state_at nfa s)
next_above nfa ascend s e = ascend s (capture_next (state_at nfa s)) (grind arith)

-- after captures that ascend comes a greater id
followed_above : (nfa : Nfa) → CapturesAscend nfa → (s k : ℕ)
    → ((j : ℕ) → j ≤ k → is_capture nfa (followed nfa j s) ≡ true) → s < followed nfa (suc k) s
followed_above nfa ascend s zero f = next_above nfa ascend s (f 0 (omega arith))
followed_above nfa ascend s (suc k) f = omega (
  arith,
  followed_above nfa ascend s k (λ j l. f j (omega arith)),
  next_above nfa ascend (followed nfa (suc k) s) (f (suc k) (omega arith)),
)

pub ascending_captures_have_no_cycle : AscendingCapturesHaveNoCycle
ascending_captures_have_no_cycle nfa ascend s k f back = omega (arith, followed_above nfa ascend s k f, back)

-- state 1 of n8 is a capture, and its own next state
pub capture_rows : AreCaptureRows
capture_rows = record {
  n8_cycle = λ none. none 1 0 (λ j l. grind arith) refl;
  n14_none = ascending_captures_have_no_cycle n14 (λ s next e. grind arith);
}

pub ruleset capture_laws = (ascending_captures_have_no_cycle, capture_rows)
