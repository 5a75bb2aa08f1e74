-- The value of a DFA state, without regard to its bytes.
use Rattle.std.specs.Prelude.{ℕ, ◌<◌, ◌≤◌, ◌^◌, Bool, true, false, Option, Some, None, List, [], ◌∷◌, ◌++◌, All, nat_eq, bit_or}
use mathlib.Core.Bool.{◌||◌}
use Rattle.std.specs.List.{IsDistinct}
use Rattle.determinize_below.specs.declared.primitives.TheConstants.{MAX_ID}

-- the two flags, the two sets of assertions as bits, the patterns that match, and the NFA states
pub record Value : Type 0 where
  pub from_word : Bool
  pub half_crlf : Bool
  pub look_have : ℕ
  pub look_need : ℕ
  pub patterns : List ℕ
  pub states : List ℕ

-- the dead value: nothing set, no pattern and no NFA state
abbrev pub dead : Value
dead = record {
  from_word = false;
  half_crlf = false;
  look_have = 0;
  look_need = 0;
  patterns = [];
  states = [];
}

-- the sets have only the 18 assertions, the patterns are distinct, and all ids are in range
pub record IsValue (value : Value) : Type 0 where
  pub have : value.look_have < 2 ^ 18
  pub need : value.look_need < 2 ^ 18
  pub distinct : IsDistinct nat_eq value.patterns
  pub pattern_ids : All (λ id. id ≤ MAX_ID) value.patterns
  pub state_ids : All (λ id. id ≤ MAX_ID) value.states

-- whether the list is not empty
abbrev pub is_nonempty : List ℕ → Bool
is_nonempty [] = false
is_nonempty (x ∷ xs) = true

-- the list, or `None` if it is empty
abbrev pub listed : List ℕ → Option (List ℕ)
listed [] = None
listed (id ∷ ids) = Some (id ∷ ids)

-- the value with one more pattern at the end of its list
abbrev pub with_pattern : Value → ℕ → Value
with_pattern value id = record value { patterns = value.patterns ++ id ∷ [] }

-- the value with one more NFA state at the end of its list
abbrev pub with_state : Value → ℕ → Value
with_state value id = record value { states = value.states ++ id ∷ [] }

-- the value with these assertions added to look-have
abbrev pub with_looks : Value → ℕ → Value
with_looks value looks = record value { look_have = bit_or value.look_have looks }

-- the value with these flags set in addition to its own
abbrev pub with_flags : Value → Bool → Bool → Value
with_flags value from_word half_crlf = record value {
  from_word = value.from_word || from_word;
  half_crlf = value.half_crlf || half_crlf;
}
