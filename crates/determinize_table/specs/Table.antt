-- A transition table: the cached states, the cached transitions between them, and the rule of what
-- is cached.
use Rattle.std.specs.Prelude.{◌≡◌, ℕ, Bool, cond, ◌&&◌, ◌||◌, Option, Some, None, List, [], ◌∷◌, ◌++◌, ◌⊎◌, is_some}
use Rattle.std.specs.Prelude.{Contains, false, length, nat_eq, nat_le, nat_lt}
use Rattle.std.specs.List.{list_any, position_from}
use Rattle.std.specs.Option.{option_eq}
use Rattle.determinize_below.specs.ByteClasses.{Classes, class_of}
use Rattle.determinize_core.specs.Equality.{same}
use Rattle.determinize_engine.specs.States.{EachApart}
use Rattle.determinize_core.specs.Value.{Value}

-- the cached states, and for each cached transition, from a state over a byte or over EOI, its
-- target
pub record Table : Type 0 where
  pub states : List Value
  pub target : Value → Option ℕ → Option Value

-- no state and no transition is cached
abbrev pub empty : Table
empty = record { states = []; target = λ v u. None }

-- whether the transition from a state over a unit is cached
abbrev pub is_cached : Table → Value → Option ℕ → Bool
is_cached t v u = is_some (t.target v u)

-- whether two units are equal
abbrev pub same_unit : Option ℕ → Option ℕ → Bool
same_unit = option_eq nat_eq

-- whether two units are bytes of one class
abbrev pub in_one_class : Classes → Option ℕ → Option ℕ → Bool
in_one_class p None y = false
in_one_class p (Some b) None = false
in_one_class p (Some b) (Some c) =
    nat_lt b 256 && nat_lt c 256 && nat_eq (class_of p b) (class_of p c)

-- whether a unit is a byte from `first` up to, but not including, `end`, which is at most 256
abbrev pub in_range : ℕ → ℕ → Option ℕ → Bool
in_range first end None = false
in_range first end (Some b) = nat_le first b && nat_lt b end

-- whether a computed step over a unit is cached for another unit: for the unit itself and, if there
-- are classes, for each byte of its class
abbrev pub shares : Option Classes → Option ℕ → Option ℕ → Bool
shares None u y = same_unit y u
shares (Some p) u y = same_unit y u || in_one_class p u y

-- the values with one more at the end, unless it is there
abbrev pub with_value : List Value → Value → List Value
with_value values v = cond (list_any (same v) values) values (values ++ v ∷ [])

-- the values with more at the end, each unless it is there already
abbrev pub with_values : List Value → List Value → List Value
with_values values [] = values
with_values values (v ∷ vs) = with_values (with_value values v) vs

-- the targets with w as that of the transitions from v over some units
abbrev pub with_target : (Option ℕ → Bool) → (Value → Option ℕ → Option Value) → Value → Value
    → Value → Option ℕ → Option Value
with_target over target v w x y = cond (same x v && over y) (Some w) (target x y)

-- the table with the transitions from v over some units to w, and with both states
abbrev pub with_transition : (Option ℕ → Bool) → Table → Value → Value → Table
with_transition over t v w = record {
  states = with_value (with_value t.states v) w;
  target = with_target over t.target v w;
}

-- whether the table with transitions from v to w has at most `limit` states
abbrev pub fits : ℕ → Table → Value → Value → Bool
fits limit t v w = nat_le (length (with_value (with_value t.states v) w)) limit

-- the table with the transitions from v over some units to w; if they do not fit, these transitions
-- only; if they do not fit either, nothing
abbrev pub keep : (Option ℕ → Bool) → ℕ → Table → Value → Value → Table
keep over limit t v w =
    cond (fits limit t v w) (with_transition over t v w)
    (cond (fits limit empty v w) (with_transition over empty v w) empty)

-- the index of the first value that is equal
abbrev pub index_in : List Value → Value → Option ℕ
index_in values v = position_from (same v) 0 values

-- each state is there once, and it is the source or the target of a cached transition; each cached
-- transition is a step of the DFA, and its source and its target are there
pub record IsTable (step : Value → Option ℕ → Value) (t : Table) : Type 0 where
  pub apart : EachApart t.states
  pub steps : (v : Value) (u : Option ℕ) (w : Value) → t.target v u ≡ Some w → w ≡ step v u
  pub ends : (v : Value) (u : Option ℕ) (w : Value) → t.target v u ≡ Some w
      → Contains t.states v × Contains t.states w
  pub used : (x : Value) → Contains t.states x
      → (v : Value) × (u : Option ℕ) × (w : Value) × (t.target v u ≡ Some w) × ((x ≡ v) ⊎ (x ≡ w))
