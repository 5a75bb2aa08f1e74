-- The NFA states that the values of a walk record.
use Rattle.std.specs.Prelude.{◌≡◌, ℕ, suc, ◌≤◌, Some, None, List, [], length, slice_get}
use Rattle.determinize_below.specs.Semantics.{Nfa, Text}
use Rattle.ordered_reach.specs.Runs.{IsBeginning}
use Rattle.determinize_below.specs.Reached.{IsKnownReached}
use Rattle.determinize_below.specs.declared.search.MatchKind.{MatchKind}
use Rattle.determinize_below.specs.declared.search.MatchKind.TheVariants.{All, LeftmostFirst}
use Rattle.determinize_state.specs.Value.{Value}

-- the part of a list that is recorded: all of it, or under `LeftmostFirst` a prefix
abbrev pub IsPartKept : MatchKind → List ℕ → List ℕ → Type 0
IsPartKept All part whole = part ≡ whole
IsPartKept LeftmostFirst part whole = IsBeginning part whole

-- each value but the last records the states that runs reach at its position under the look-behind;
-- the last one records none if there is no byte ahead
pub record RecordsReached (nfa : Nfa) (kind : MatchKind) (start : ℕ) (text : Text)
    (values : List Value) : Type 0 where
  pub ids : (i : ℕ) (v : Value) → i ≤ length text.bytes → slice_get values i ≡ Some v
      → (xs : List ℕ) × IsKnownReached nfa text start i xs × IsPartKept kind v.states xs
  pub last : text.ahead ≡ None → (v : Value) → slice_get values (suc (length text.bytes)) ≡ Some v
      → v.states ≡ []
