-- A bounded cache of transitions.
use Rattle.std.specs.Prelude.{◌≡◌, ℕ, ◌+◌, ◌≤◌, ◌⊎◌, Bool, cond, Option, Some, None, List, [], ◌∷◌, length, min, nat_eq, take}
use Rattle.determinize_below.specs.ByteClasses.{Classes}
use Rattle.determinize_below.specs.Look.{union}
use Rattle.determinize_below.specs.Semantics.{Nfa, Text}
use Rattle.determinize_below.specs.declared.search.MatchKind.{MatchKind}
use Rattle.determinize_core.specs.Chain.{units}
use Rattle.determinize_core.specs.Step.{start_value, step}
use Rattle.determinize_core.specs.Value.{Value}
use Rattle.determinize_table.specs.Stored.{table_in}
use Rattle.determinize_table.specs.Table.{Table, empty, is_cached, keep, shares}

-- a cache: its NFA and match kind, the greatest number of states, the table, how many transitions
-- were computed, and the classes of bytes that share computed steps, if there are any
pub record Cache : Type 0 where
  pub nfa : Nfa
  pub kind : MatchKind
  pub limit : ℕ
  pub table : Table
  pub computed : ℕ
  pub classes : Option Classes

-- what a `Lazy` is seen as: the same, with the table as it is stored
pub record LazyValue : Type 0 where
  pub nfa : Nfa
  pub kind : MatchKind
  pub limit : ℕ
  pub states : List Value
  pub rows : List ℕ
  pub computed : ℕ
  pub classes : Option Classes

-- its cache
abbrev pub cache : LazyValue → Cache
cache v = record {
  nfa = v.nfa;
  kind = v.kind;
  limit = v.limit;
  table = table_in v.states v.rows;
  computed = v.computed;
  classes = v.classes;
}

-- an empty cache
abbrev pub empty_cache : Nfa → MatchKind → ℕ → Option Classes → Cache
empty_cache nfa kind limit classes = record {
  nfa = nfa;
  kind = kind;
  limit = limit;
  table = empty;
  computed = 0;
  classes = classes;
}

-- the step of its NFA and kind
abbrev pub step_of : Cache → Value → Option ℕ → Value
step_of c = step c.nfa c.kind

-- the count after n more computed transitions, which stays at the greatest number of 64 bits
abbrev pub count_after : ℕ → ℕ → ℕ
count_after computed n = min (computed + n) 18446744073709551615

-- whether a value needs only assertions that the NFA tests, as each value of its DFA does
abbrev pub needs_tested : Nfa → Value → Bool
needs_tested nfa v = nat_eq (union v.look_need nfa.look_set_any) nfa.look_set_any

-- the classes of bytes over which a step from a value is the same
abbrev pub classes_from : Nfa → Value → Option Classes → Option Classes
classes_from nfa v None = None
classes_from nfa v (Some p) = cond (needs_tested nfa v) (Some p) None

-- the units over which a computed step from a value over a unit is cached: the unit and, if there
-- are classes, the bytes of its class
abbrev pub shared_by : Cache → Value → Option ℕ → Option ℕ → Bool
shared_by c v u = shares (classes_from c.nfa v c.classes) u

-- the cache after one step from a value over a unit: a transition that is not cached is computed
-- and counted, and cached by the rule `keep`
abbrev pub after_step : Cache → Value → Option ℕ → Cache
after_step c v u = record c {
  table = cond (is_cached c.table v u) c.table
      (keep (shared_by c v u) c.limit c.table v (step_of c v u));
  computed = cond (is_cached c.table v u) c.computed (count_after c.computed 1);
}

-- the cache after a walk from a value over units
abbrev pub after_walk : Cache → Value → List (Option ℕ) → Cache
after_walk c v [] = c
after_walk c v (u ∷ us) = after_walk (after_step c v u) (step_of c v u) us

-- the cache after the walk from an NFA state over a text
unfoldable pub after_text : Cache → ℕ → Text → Cache
after_text c start text = after_walk c (start_value c.nfa start text.behind) (units text)

-- what every call leaves: the NFA, the match kind, the limit and the classes as they were, and a
-- count that is not smaller
pub record Grows (old new : Cache) : Type 0 where
  pub nfa : new.nfa ≡ old.nfa
  pub kind : new.kind ≡ old.kind
  pub limit : new.limit ≡ old.limit
  pub classes : new.classes ≡ old.classes
  pub computed : old.computed ≤ new.computed

-- what a walk leaves that fails after some of its first units: the table after these, or nothing is
-- cached; and the count after these, or after one more
pub record IsCutOff (old : Cache) (v : Value) (us : List (Option ℕ)) (new : Cache) : Type 0 where
  pub steps : ℕ
  pub table : (new.table ≡ empty) ⊎ (new.table ≡ (after_walk old v (take steps us)).table)
  pub counted : (new.computed ≡ (after_walk old v (take steps us)).computed)
      ⊎ (new.computed ≡ (after_walk old v (take (steps + 1) us)).computed)

-- a walk computes at most one transition for each of its units
abbrev pub EachWalkComputesFew : Type 0
EachWalkComputesFew = (c : Cache) (v : Value) (us : List (Option ℕ))
    → c.computed ≤ 18446744073709551615
    → (c.computed ≤ (after_walk c v us).computed)
    × ((after_walk c v us).computed ≤ c.computed + length us)
