-- Laws of steps over bytes that an NFA does not distinguish, and marks where targets change.
use Rattle.std.specs.Prelude.{◌≡◌, ℕ, ◌+◌, ◌<◌, All, Bool, false, true, List, Option, Some}
use Rattle.determinize_below.specs.ByteClasses.{AreAlike, is_marked}
use Rattle.determinize_below.specs.Edges.{IsTested}
use Rattle.determinize_below.specs.Look.{has}
use Rattle.determinize_below.specs.Semantics.{Nfa, state_at, target_of}
use Rattle.determinize_below.specs.Nfa.{IsAccepted}
use Rattle.determinize_below.specs.declared.look.Look.{Look as Assertion}
use Rattle.determinize_below.specs.declared.search.MatchKind.{MatchKind}
use Rattle.determinize_core.specs.Step.{start_value, step}
use Rattle.determinize_state.specs.Value.{Value}

-- each assertion in look-need is one that the NFA tests
abbrev pub NeedsTested : Nfa → Value → Type 0
NeedsTested nfa v = (l : Assertion) → has v.look_need l ≡ true → IsTested nfa l

-- a step of a valid NFA does not distinguish alike bytes, from a value that needs only assertions
-- of the NFA
abbrev pub EachClassSteps : Type 0
EachClassSteps = (nfa : Nfa) → IsAccepted nfa → (kind : MatchKind) (v : Value) → NeedsTested nfa v
    → (b c : ℕ) → AreAlike nfa b c → step nfa kind v (Some b) ≡ step nfa kind v (Some c)

-- each value of a walk needs only assertions of the NFA: a start value, and a value after a step
abbrev pub EachNeedIsTested : Type 0
EachNeedIsTested = (nfa : Nfa)
    → ((s : ℕ) (p : Option ℕ) → NeedsTested nfa (start_value nfa s p))
    × ((kind : MatchKind) (v : Value) (u : Option ℕ) → NeedsTested nfa (step nfa kind v u))

-- on a byte without a mark each of the states has the same target as on the byte before it
abbrev pub AreChanges : Nfa → List ℕ → List Bool → Type 0
AreChanges nfa ids marks = (b : ℕ) → b < 255 → is_marked marks (b + 1) ≡ false
    → All (λ s. target_of (Some b) (state_at nfa s) ≡ target_of (Some (b + 1)) (state_at nfa s)) ids
