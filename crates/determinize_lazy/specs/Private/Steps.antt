-- One step of a walk or a search over a cache.
use Rattle.std.specs.Prelude.{◌≡◌, ℕ, ◌++◌, ◌<◌, ◌≤◌, ◌⊎◌, IfOk, List, OnErr, OnOk, Option, Result}
use Rattle.std.specs.Prelude.{drop, length, slice_index_or}
use Rattle.std.specs.Option.{IfSome}
use Rattle.determinize_below.specs.ByteClasses.{AreClassesOf}
use Rattle.determinize_below.specs.Edges.{pattern_count}
use Rattle.determinize_below.specs.Nfa.{AllResolve, IsAccepted}
use Rattle.determinize_below.specs.Semantics.{Nfa}
use Rattle.determinize_core.specs.Chain.{future}
use Rattle.determinize_core.specs.Value.{Value, dead}
use Rattle.determinize_lazy.specs.Cache.{Cache, Grows, IsCutOff, LazyValue, after_step, after_walk}
use Rattle.determinize_lazy.specs.Cache.{cache, step_of}
use Rattle.determinize_table.specs.Cursors.{IsCursor, cursor_value}
use Rattle.determinize_table.specs.declared.table.Cursor.{Cursor}
use Rattle.determinize_table.specs.declared.table.Cursor.TheVariants.{Cached, Uncached}
use Rattle.determinize_table.specs.Table.{IsTable, empty}

-- a value from which a step may be taken: its ids are states of the NFA, and it lists no more
-- patterns and no more states than the NFA has
pub record IsStateOf (nfa : Nfa) (v : Value) : Type 0 where
  pub resolve : AllResolve nfa v.states
  pub patterns : length v.patterns ≤ pattern_count nfa
  pub states : length v.states ≤ length nfa.states

-- a state that is not cached is one from which a step may be taken, as each cached state is
abbrev pub IsKnown : {A : Type 0} → Nfa → Cursor A → Type 0
IsKnown nfa (Cached id) = Unit {0}
IsKnown nfa (Uncached state) = IsStateOf nfa state

-- a cursor from which a step may be taken
pub record IsReady {A : Type 0} (c : LazyValue) (at : Cursor A) : Type 0 where
  pub cursor : IsCursor c.states at
  pub known : IsKnown c.nfa at

-- what a step leaves if it fails: the table as it was, or nothing is cached; and the count as it
-- was, or as it is after the step
pub record IsFailedStep (old : Cache) (v : Value) (u : Option ℕ) (new : Cache) : Type 0 where
  pub table : (new.table ≡ empty) ⊎ (new.table ≡ old.table)
  pub counted : (new.computed ≡ old.computed) ⊎ (new.computed ≡ (after_step old v u).computed)

-- what is true of every cache: the NFA is valid, the table is one of its steps, the count has 64
-- bits, and the classes are those of the NFA
pub record IsSound (c : Cache) : Type 0 where
  pub accepted : IsAccepted c.nfa
  pub table : IsTable (step_of c) c.table
  pub small : c.computed ≤ 18446744073709551615
  pub classes : IfSome c.classes (λ p. AreClassesOf c.nfa p)

-- what a call for a start state returns and leaves: its cursor, and the cache as it was
pub record IsStarted {A E : Type 0} (old : LazyValue) (v : Value) (result : Result (Cursor A) E)
    (new : LazyValue) : Type 0 where
  pub ready : IfOk result (λ cursor. IsReady new cursor)
  pub value : IfOk result (λ cursor. cursor_value new.states cursor ≡ v)
  pub sound : IsSound (cache old)
  pub unchanged : new ≡ old

-- what a step from a value over a unit leaves and returns: the cursor of the value that follows
pub record IsStepped {A E : Type 0} (old : LazyValue) (v : Value) (u : Option ℕ)
    (result : Result (Cursor A) E) (new : LazyValue) : Type 0 where
  pub ready : IfOk result (λ next. IsReady new next)
  pub value : IfOk result (λ next. cursor_value new.states next ≡ step_of (cache old) v u)
  pub after : OnOk result (cache new ≡ after_step (cache old) v u)
  pub failed : OnErr result (IsFailedStep (cache old) v u (cache new))
  pub grows : Grows (cache old) (cache new)

-- what a call leaves that reads units from a value on
pub record IsCacheAfter {T E : Type 0} (old : Cache) (v : Value) (us : List (Option ℕ))
    (result : Result T E) (new : Cache) : Type 0 where
  pub after : OnOk result (new ≡ after_walk old v us)
  pub failed : OnErr result (IsCutOff old v us new)
  pub grows : Grows old new

-- a walk over units that is at a value, with some units left: the values so far and those that
-- follow are those of the whole walk, and what the rest of it leaves is what the whole leaves
pub record IsWalking (old : Cache) (first : Value) (us : List (Option ℕ)) (done : List Value)
    (now : Cache) (v : Value) (left : List (Option ℕ)) : Type 0 where
  pub values : done ++ drop 1 (future now.nfa now.kind v left) ≡ future old.nfa old.kind first us
  pub after : after_walk now v left ≡ after_walk old first us
  pub failed : (new : Cache) → IsCutOff now v left new → IsCutOff old first us new
  pub grows : Grows old now

-- cached transitions were followed from the state with one id to that with another: a walk over
-- these units that was at the first, with the states `before`, is at the second, with `done`
pub record IsFollowed (us : List (Option ℕ)) (c : LazyValue) (from start : ℕ) (before : List Value)
    (id read : ℕ) (done : List Value) : Type 0 where
  pub inside : id < length c.states
  pub further : start ≤ read
  pub walking : (old : Cache) (first : Value)
      → IsWalking old first us before (cache c) (slice_index_or c.states from dead) (drop start us)
      → IsWalking old first us done (cache c) (slice_index_or c.states id dead) (drop read us)
