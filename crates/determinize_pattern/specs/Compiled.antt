-- The NFA of several patterns.
use Rattle.std.specs.Prelude.{◌≡◌, ◌<◌, ◌↔◌, ◌⊎◌, ℕ, Contains, List, Some, slice_get}
use Rattle.determinize_below.specs.Semantics.{Nfa, Text}
use Rattle.determinize_nfa.specs.Runs.{AcceptsFrom}
use Rattle.determinize_pattern.specs.LeftmostOf.{all_ends}
use Rattle.determinize_pattern.specs.Meaning.{Re}
use Rattle.ordered_reach.specs.Paths.{Before}

-- the run accepts, and it is the most preferred of those that begin where it does
pub record IsPreferredFrom (nfa : Nfa) (text : Text) (k start : ℕ) (cs : List ℕ)
    (j pattern : ℕ) : Type 0 where
  pub accepts : AcceptsFrom nfa text k start cs j pattern
  pub preferred : (ds : List ℕ) (i other : ℕ) → AcceptsFrom nfa text k start ds i other
      → (cs ≡ ds) ⊎ Before cs ds

-- at each position of each text the runs from the anchored start accept the ends of the patterns,
-- the first of these is that of the most preferred run, and a run that accepts an earlier pattern
-- is preferred to one that accepts a later one
pub record IsNfaOf (res : List Re) (nfa : Nfa) : Type 0 where
  pub each : (text : Text) (k j pattern : ℕ)
      → ((cs : List ℕ) × AcceptsFrom nfa text k nfa.start_anchored cs j pattern)
      ↔ Contains (all_ends nfa.terminator text 0 res k) (pattern, j)
  pub first : (text : Text) (k j pattern : ℕ)
      → ((cs : List ℕ) × IsPreferredFrom nfa text k nfa.start_anchored cs j pattern)
      ↔ (slice_get (all_ends nfa.terminator text 0 res k) 0 ≡ Some (pattern, j))
  pub order : (text : Text) (k : ℕ) (cs ds : List ℕ) (i j earlier later : ℕ) → earlier < later
      → AcceptsFrom nfa text k nfa.start_anchored cs i earlier
      → AcceptsFrom nfa text k nfa.start_anchored ds j later → Before cs ds
