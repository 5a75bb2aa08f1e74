-- Idle scans, and runs that began before a position.
use Rattle.std.specs.Prelude.{◌≡◌, ◌<◌, ℕ, List, None, Some, slice_get}
use Rattle.determinize_below.specs.Semantics.{Nfa, Text}
use Rattle.determinize_engine.specs.Scans.{Scanned}
use Rattle.determinize_nfa.specs.Runs.{IsRunFrom}
use Rattle.determinize_nfa.specs.Leftmost.{NothingFrom}

-- there is no match so far, and the first NFA state is the unanchored start
pub record IsIdle (nfa : Nfa) (s : Scanned) : Type 0 where
  pub none : s.last ≡ None
  pub first : slice_get s.state.states 0 ≡ Some nfa.start_unanchored

-- no run from the anchored start at a position before i accepts
abbrev pub NothingBefore : Nfa → Text → ℕ → Type 0
NothingBefore nfa text i = (k : ℕ) → k < i → NothingFrom nfa text k

-- some run from the anchored start at a position before i is in the state at position i
abbrev pub HasBegun : Nfa → Text → ℕ → ℕ → Type 0
HasBegun nfa text i s = (k : ℕ) × (k < i) × (cs : List ℕ)
    × IsRunFrom nfa text k nfa.start_anchored cs (i, s)
