-- The fewest rows of all tables that list the same patterns along all units. A unit may follow the
-- end of input, so some tables that agree where texts end have fewer.
use Rattle.std.specs.Prelude.{◌≡◌, ◌<◌, ◌≤◌, ℕ, All, Bool, Option, List, length}
use Rattle.determinize_below.specs.Semantics.{Nfa}
use Rattle.determinize_below.specs.Truth.{IsUnit}
use Rattle.determinize_below.specs.declared.search.MatchKind.{MatchKind}
use Rattle.determinize_dense.specs.Dfa.{IsDfaOf}
use Rattle.determinize_dense.specs.Table.{Table, patterns_at, row_after, row_over, start_row}

-- the row is that after some units from a start
abbrev pub IsReachedRow : Nfa → Table → ℕ → Type 0
IsReachedRow nfa d r = (anchored : Bool) × (p : Option ℕ) × (us : List (Option ℕ))
    × IsUnit p × All IsUnit us × (r ≡ row_after d (start_row nfa d anchored p) us)

-- after some units, the two rows list different patterns
abbrev pub AreApart : Table → ℕ → ℕ → Type 0
AreApart d r s = (us : List (Option ℕ)) × All IsUnit us
    × (patterns_at d (row_after d r us) ≡ patterns_at d (row_after d s us) → ⊥)

-- each row is reached, and any two rows are apart
pub record IsLeast (nfa : Nfa) (d : Table) : Type 0 where
  pub reached : (r : ℕ) → r < length d.patterns → IsReachedRow nfa d r
  pub apart : (r s : ℕ) → r < length d.patterns → s < length d.patterns → (r ≡ s → ⊥)
      → AreApart d r s

-- the starts and the entries are numbers of rows
pub record HasRows (nfa : Nfa) (d : Table) : Type 0 where
  pub starts : (anchored : Bool) (p : Option ℕ) → IsUnit p
      → start_row nfa d anchored p < length d.patterns
  pub rows : (r : ℕ) (u : Option ℕ) → r < length d.patterns → IsUnit u
      → row_over d r u < length d.patterns

-- no table that lists the same patterns along all units has fewer rows
abbrev pub LeastIsLeast : Type 0
LeastIsLeast = (nfa : Nfa) (kind : MatchKind) (d e : Table) → IsDfaOf nfa kind d → IsLeast nfa d
    → IsDfaOf nfa kind e → HasRows nfa e → length d.patterns ≤ length e.patterns
