-- A cursor over all matches by a DFA.
use Rattle.std.specs.Prelude.{◌≡◌, ◌≤◌, ℕ, Bool, true}
use Rattle.determinize_below.specs.Semantics.{Nfa}
use Rattle.determinize_below.specs.declared.search.MatchKind.TheVariants.{LeftmostFirst}
use Rattle.determinize_dense.specs.Bytes.{Stored}
use Rattle.determinize_linear.specs.Private.Following.{IsWalkable}
use Rattle.determinize_linear.specs.Private.RowMarks.{RowMarks}
use Rattle.determinize_linear.specs.Private.Starts.{BeginAlike}
use Rattle.determinize_linear.specs.Private.Turns.{CursorValue, IsCursor, IsInside}

-- walks by this DFA, with these marks, may go on where the cursor is
pub record IsSearcher (dfa : Stored) (IsOf Finds : Nfa → Type 0) (marks : RowMarks)
    (begin_alike : Bool) (c : CursorValue) : Type 0 where
  pub known : (nfa : Nfa) → Finds nfa → IsOf nfa
  pub kind : dfa.kind ≡ LeftmostFirst
  pub alike : begin_alike ≡ true → BeginAlike dfa c.text
  pub walkable : (k : ℕ) → c.at ≤ k → IsWalkable dfa marks c.text k
  pub inside : IsInside c
  pub cursor : (nfa : Nfa) → Finds nfa → IsCursor nfa c
