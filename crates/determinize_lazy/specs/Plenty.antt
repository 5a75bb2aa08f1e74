-- What a walk leaves if the limit has room for all of its states.
use Rattle.std.specs.Prelude.{◌≡◌, ℕ, ◌+◌, ◌≤◌, Bool, cond, Option, List, [], ◌∷◌, length}
use Rattle.determinize_core.specs.Chain.{future}
use Rattle.determinize_core.specs.Value.{Value}
use Rattle.determinize_lazy.specs.Cache.{Cache, after_walk, count_after, shared_by, step_of}
use Rattle.determinize_table.specs.Table.{Table, is_cached, with_transition, with_values}

-- the cached states and those of a walk from a value over units are together at most `limit`
abbrev pub HasRoom : Cache → Value → List (Option ℕ) → Type 0
HasRoom c v us = length (with_values c.table.states (future c.nfa c.kind v us)) ≤ c.limit

module _ (f : Value → Option ℕ → Value) (shared : Value → Option ℕ → Option ℕ → Bool) where
  -- the table with a transition and those that share its step, unless it is cached
  abbrev pub with_step : Table → Value → Option ℕ → Table
  with_step t v u = cond (is_cached t v u) t (with_transition (shared v u) t v (f v u))

  -- the table with all transitions of a walk from a value over units
  abbrev pub with_walk : Table → Value → List (Option ℕ) → Table
  with_walk t v [] = t
  with_walk t v (u ∷ us) = with_walk (with_step t v u) (f v u) us

  -- how many of them the table does not have, each counted once
  abbrev pub missing : Table → Value → List (Option ℕ) → ℕ
  missing t v [] = 0
  missing t v (u ∷ us) = cond (is_cached t v u) 0 1 + missing (with_step t v u) (f v u) us

-- the cache was not cleared, each transition of the walk is cached, each that was missing was
-- computed once, and the same walk again changes nothing
pub record KeepsAll (old : Cache) (v : Value) (us : List (Option ℕ)) (new : Cache) : Type 0 where
  pub table : new.table ≡ with_walk (step_of old) (shared_by old) old.table v us
  pub once : new.computed ≡ count_after old.computed
      (missing (step_of old) (shared_by old) old.table v us)
  pub again : after_walk new v us ≡ new
