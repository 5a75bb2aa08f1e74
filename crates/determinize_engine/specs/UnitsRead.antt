-- The units that a search reads.
use Rattle.std.specs.Prelude.{ℕ, Bool, cond, not, ◌&&◌, ◌||◌, Option, List, [], ◌∷◌}
use Rattle.determinize_core.specs.Value.{Value, is_nonempty}

-- whether a search ends at a value: it records no NFA states or, in a search for the earliest
-- match, it lists a pattern
abbrev pub is_last : Bool → Value → Bool
is_last earliest v = (earliest && is_nonempty v.patterns) || not (is_nonempty v.states)

-- the units that a search from a value reads: none more from a value on at which it ends
abbrev pub units_read : (Value → Option ℕ → Value) → Bool → Value → List (Option ℕ)
    → List (Option ℕ)
units_read f earliest v [] = []
units_read f earliest v (u ∷ us) =
    cond (is_last earliest v) [] (u ∷ units_read f earliest (f v u) us)
