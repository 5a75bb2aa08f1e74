-- Adding NFA states to a value.
use Rattle.std.specs.Prelude.{◌≡◌, ℕ, ◌==◌, cond, Option, Some, None, List, [], ◌∷◌, ◌++◌}
use Rattle.determinize_below.specs.declared.look.Look.{Look as Assertion}
use Rattle.determinize_below.specs.Edges.{assertion_of, is_capture}
use Rattle.determinize_below.specs.Look.{insert}
use Rattle.determinize_below.specs.Semantics.{Nfa}
use Rattle.ordered_reach.specs.Runs.{without}
use Rattle.determinize_state.specs.Value.{Value}

-- the set with an optional assertion added
abbrev pub with_assertion : ℕ → Option Assertion → ℕ
with_assertion set None = set
with_assertion set (Some look) = insert set look

-- the set with the assertions of the `Look` states of a list added
abbrev pub needs : Nfa → ℕ → List ℕ → ℕ
needs nfa set [] = set
needs nfa set (s ∷ xs) = needs nfa (with_assertion set (assertion_of nfa s)) xs

-- the value with these NFA states after its own, and their assertions in look-need
abbrev pub added : Nfa → Value → List ℕ → Value
added nfa v xs = record v { look_need = needs nfa v.look_need xs; states = v.states ++ xs }

-- the value with one more state, unless it is a capture
abbrev pub added_one : Nfa → Value → ℕ → Value
added_one nfa v s = cond (is_capture nfa s) v (added nfa v (s ∷ []))

-- the value with look-have cleared if look-need is empty
abbrev pub settled : Value → Value
settled value = record value { look_have = cond (value.look_need == 0) 0 value.look_have }

-- the value with these NFA states after its own, their assertions in look-need, and look-have
-- cleared if look-need is empty
abbrev pub with_states : Nfa → Value → List ℕ → Value
with_states nfa v xs = record {
  from_word = v.from_word;
  half_crlf = v.half_crlf;
  look_have = cond (needs nfa v.look_need xs == 0) 0 v.look_have;
  look_need = needs nfa v.look_need xs;
  patterns = v.patterns;
  states = v.states ++ xs;
}

-- the value with the states of a list added, except captures
abbrev pub recorded : Nfa → Value → List ℕ → Value
recorded nfa v entered = with_states nfa v (without (is_capture nfa) entered)

-- the second value is the first with more NFA states and any look-have and look-need
pub record IsGrown (before now : Value) : Type 0 where
  pub from_word : now.from_word ≡ before.from_word
  pub half_crlf : now.half_crlf ≡ before.half_crlf
  pub patterns : now.patterns ≡ before.patterns
  pub states : (more : List ℕ) × (now.states ≡ before.states ++ more)
