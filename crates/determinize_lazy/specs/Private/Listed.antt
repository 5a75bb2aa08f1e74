-- What the values of a walk list, and marks of it.
use Rattle.std.specs.Prelude.{◌≡◌, ◌∷◌, ◌++◌, ℕ, [], Bool, Contains, drop, List, Option}
use Rattle.determinize_below.specs.Semantics.{Nfa, Text}
use Rattle.determinize_below.specs.declared.search.MatchKind.{MatchKind}
use Rattle.determinize_core.specs.Chain.{units}
use Rattle.determinize_core.specs.Step.{start_value, step}
use Rattle.determinize_core.specs.Value.{Value}
use Rattle.determinize_lazy.specs.Marks.{AreMarked}
use Rattle.determinize_lazy.specs.Private.Searched.{Place}

-- the patterns that the values of the walk from a value over units list, those of each in turn
abbrev pub listed : Nfa → MatchKind → Value → List (Option ℕ) → List ℕ
listed nfa kind v [] = v.patterns
listed nfa kind v (u ∷ us) = v.patterns ++ listed nfa kind (step nfa kind v u) us

-- those of the walk from an NFA state over a text
abbrev pub listed_over : Nfa → MatchKind → ℕ → Text → List ℕ
listed_over nfa kind start text = listed nfa kind (start_value nfa start text.behind) (units text)

-- those of the values of the rest of a walk over units, from a place on
abbrev pub listed_from : List (Option ℕ) → Place → List ℕ
listed_from us at = listed at.cache.nfa at.cache.kind at.value (drop at.read us)

-- some patterns of a list are marked, and the rest is still to come
pub record IsMarking (old : List Bool) (all : List ℕ) (now : List Bool) (rest : List ℕ) : Type 0
  where
    pub done : List ℕ
    pub are : AreMarked old (Contains done) now
    pub whole : done ++ rest ≡ all
