-- The leftmost match of the runs of an NFA.
use Rattle.std.specs.Prelude.{◌≡◌, ◌<◌, ◌≤◌, ◌⊎◌, ℕ, List, None, Option, Some}
use Rattle.determinize_below.specs.Semantics.{Nfa, Text}
use Rattle.determinize_below.specs.declared.search.Match.{Match}
use Rattle.ordered_reach.specs.Paths.{Before}
use Rattle.determinize_nfa.specs.Runs.{AcceptsFrom}

-- no run from the anchored start at this position accepts
abbrev pub NothingFrom : Nfa → Text → ℕ → Type 0
NothingFrom nfa text k = (cs : List ℕ) (i pattern : ℕ)
    → AcceptsFrom nfa text k nfa.start_anchored cs i pattern → ⊥

-- no match begins before it, and of the runs that begin where it does its run is the most preferred
pub record IsLeftmostMatch (nfa : Nfa) (text : Text) (m : Match) : Type 0 where
  pub leftmost : (k : ℕ) → k < m.start → NothingFrom nfa text k
  pub choices : List ℕ
  pub accepts : AcceptsFrom nfa text m.start nfa.start_anchored choices m.end m.pattern
  pub preferred : (ds : List ℕ) (j other : ℕ)
      → AcceptsFrom nfa text m.start nfa.start_anchored ds j other
      → (choices ≡ ds) ⊎ Before choices ds

-- the leftmost match that begins at position `latest` or before; `None` if no match begins there
abbrev pub IsLeftmost : Nfa → Text → ℕ → Option Match → Type 0
IsLeftmost nfa text latest None = (k : ℕ) → k ≤ latest → NothingFrom nfa text k
IsLeftmost nfa text latest (Some m) = (m.start ≤ latest) × IsLeftmostMatch nfa text m
