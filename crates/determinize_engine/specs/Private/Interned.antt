-- States that are kept with a map to their indices.
use Rattle.std.specs.Prelude.{◌≤◌, ℕ, Option, List, length}
use Rattle.determinize_engine.specs.States.{EachApart, IsIndex}
use Rattle.determinize_engine.specs.declared.state_table.TheConstants.{MAX_STATES}
use Rattle.determinize_state.specs.Value.{Value}

-- at most `MAX_STATES` states, of which no two are equal, and a map to their indices
pub record AreInterned (states : List Value) (index : Value → Option ℕ) : Type 0 where
  pub mapped : (v : Value) → IsIndex states v (index v)
  pub apart : EachApart states
  pub few : length states ≤ MAX_STATES
