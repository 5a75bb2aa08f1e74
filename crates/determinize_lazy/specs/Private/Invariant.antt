-- What is true of every cache.
use Rattle.std.specs.Prelude.{ℕ, ◌≤◌, All, length, Option}
use Rattle.determinize_below.specs.ByteClasses.{Classes}
use Rattle.determinize_below.specs.Semantics.{Nfa}
use Rattle.determinize_below.specs.declared.search.MatchKind.{MatchKind}
use Rattle.determinize_lazy.specs.Cache.{LazyValue}
use Rattle.determinize_table.specs.Rows.{StoredTable, table_of}
use Rattle.determinize_lazy.specs.Private.Starts.{AreStarts}
use Rattle.determinize_lazy.specs.Private.Steps.{IsSound, IsStateOf}

-- what a `LazyDfa` with these fields is seen as
abbrev pub viewed : Nfa → MatchKind → ℕ → ℕ → Option Classes → StoredTable → LazyValue
viewed nfa kind limit computed classes stored = record {
  nfa = nfa;
  kind = kind;
  limit = limit;
  states = stored.states;
  rows = stored.rows;
  computed = computed;
  classes = classes;
}

-- a sound cache of at most `limit` states, each of which is one of the NFA, and its start states
pub record IsLazy (nfa : Nfa) (kind : MatchKind) (limit computed : ℕ) (classes : Option Classes)
    (stored : StoredTable) : Type 0 where
  pub sound : IsSound record {
    nfa = nfa;
    kind = kind;
    limit = limit;
    table = table_of stored;
    computed = computed;
    classes = classes;
  }
  pub within : length stored.states ≤ limit
  pub known : All (IsStateOf nfa) stored.states
  pub starts : AreStarts nfa stored
