-- What the last state of a walk lists, in words of runs.
use Rattle.std.specs.Prelude.{◌≡◌, ◌≤◌, ◌↔◌, ℕ, Contains, List, length}
use Rattle.determinize_below.specs.Semantics.{Accepts, IsPreferredRun, Nfa, Text}
use Rattle.determinize_below.specs.declared.search.MatchKind.{MatchKind}
use Rattle.determinize_below.specs.declared.search.MatchKind.TheVariants as kinds
use Rattle.determinize_core.specs.Chain.{units, value_after}
use Rattle.determinize_core.specs.Step.{start_value}
use Rattle.determinize_core.specs.Walk.{ListsAccepted}

-- the list is the pattern of the most preferred accepting run if that ends at position i, and else
-- nothing
pub record ListsPreferred (nfa : Nfa) (text : Text) (start i : ℕ) (xs : List ℕ) : Type 0 where
  pub preferred : (x : ℕ) → (Contains xs x) ↔ ((cs : List ℕ) × IsPreferredRun nfa text start cs i x)
  pub few : length xs ≤ 1

-- the list of the last state of a walk over a text, in words of runs too
pub record ListsAtEnd (nfa : Nfa) (kind : MatchKind) (start : ℕ) (text : Text) (xs : List ℕ)
    : Type 0
  where
    pub patterns : xs
        ≡ (value_after nfa kind (start_value nfa start text.behind) (units text)).patterns
    pub all : kind ≡ kinds.All → ListsAccepted nfa text start (length text.bytes) xs
    pub preferred : kind ≡ kinds.LeftmostFirst
        → ListsPreferred nfa text start (length text.bytes) xs
    pub accepted : (x : ℕ) → Contains xs x
        → (cs : List ℕ) × Accepts nfa text start cs (length text.bytes) x
