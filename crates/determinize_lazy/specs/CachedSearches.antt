-- Calls over a cache: the units that they read, and what they leave.
use Rattle.std.specs.Prelude.{◌≡◌, ℕ, Bool, true, false, Option, List, OnErr, OnOk, Result}
use Rattle.determinize_below.specs.Semantics.{Text}
use Rattle.determinize_below.specs.Search.{Asked, is_done}
use Rattle.determinize_core.specs.Chain.{units}
use Rattle.determinize_engine.specs.Searches.{start_for, text_of}
use Rattle.determinize_core.specs.Step.{start_value}
use Rattle.determinize_core.specs.Value.{Value}
use Rattle.determinize_engine.specs.UnitsRead.{units_read}
use Rattle.determinize_lazy.specs.Cache.{Cache, Grows, IsCutOff, LazyValue, after_walk, cache, step_of}
use Rattle.determinize_lazy.specs.Plenty.{HasRoom, KeepsAll}

-- what a call leaves that reads units from a value on: the cache after a walk over them; with room
-- for all states of that walk, each of its transitions, of which each that was missing was computed
-- once; and after an error, what a walk over them leaves that fails
pub record HasRead {T E : Type 0} (old : LazyValue) (v : Value) (us : List (Option ℕ))
    (result : Result T E) (new : LazyValue) : Type 0 where
  pub after : OnOk result (cache new ≡ after_walk (cache old) v us)
  pub plenty : OnOk result (HasRoom (cache old) v us → KeepsAll (cache old) v us (cache new))
  pub failed : OnErr result (IsCutOff (cache old) v us (cache new))
  pub grows : Grows (cache old) (cache new)

-- the same of a search, which reads none of the units that follow the value at which it ends: the
-- first that records no NFA states or, if `earliest`, that lists a pattern
abbrev pub HasSearched : {T E : Type 0} → Bool → LazyValue → Value → List (Option ℕ) → Result T E
    → LazyValue → Type 0
HasSearched earliest old v us result new =
    HasRead old v (units_read (step_of (cache old)) earliest v us) result new

-- the same of a search of an input, which reads nothing if the range starts past its end
pub record HasSearchedIn {T E : Type 0} (earliest : Bool) (old : LazyValue) (asked : Asked)
    (result : Result T E) (new : LazyValue) : Type 0 where
  pub unchanged : is_done asked ≡ true → new ≡ old
  pub read : is_done asked ≡ false → let text : Text = text_of old.nfa.reverse asked in
      HasSearched earliest old
      (start_value old.nfa (start_for old.nfa asked.anchored) text.behind) (units text) result new
  pub grows : Grows (cache old) (cache new)

-- the cache after a search from an NFA state over a text
unfoldable pub after_search : Cache → ℕ → Text → Cache
after_search c start text =
    let first : Value = start_value c.nfa start text.behind in
    after_walk c first (units_read (step_of c) false first (units text))
