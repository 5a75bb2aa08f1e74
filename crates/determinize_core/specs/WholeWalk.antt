-- What a walk returns.
use Rattle.std.specs.Prelude.{◌≡◌, ◌+◌, ℕ, All, List, [], Some, length, slice_get}
use Rattle.determinize_below.specs.Nfa.{AllResolve}
use Rattle.determinize_below.specs.Semantics.{Nfa, Text}
use Rattle.determinize_below.specs.declared.search.MatchKind.{MatchKind}
use Rattle.determinize_below.specs.declared.search.MatchKind.TheVariants as kinds
use Rattle.determinize_core.specs.Chain.{FollowsItself, chain}
use Rattle.determinize_core.specs.LastMatch.{lists_of}
use Rattle.determinize_core.specs.Walk.{IsLeftmostWalk, IsWalkOfAll}
use Rattle.determinize_core.specs.WalkStates.{RecordsReached}
use Rattle.determinize_state.specs.Value.{Value}

-- the values of the walk from an NFA state over a text: one before the first byte, which lists no
-- pattern, and one after each unit; by the runs that they list, by computation, by the NFA states
-- that they record, and that each of them determines the rest
pub record IsWalk (nfa : Nfa) (kind : MatchKind) (start : ℕ) (text : Text) (states : List Value)
    : Type 0 where
  pub count : length states ≡ length text.bytes + 2
  pub first : slice_get (lists_of states) 0 ≡ Some []
  pub all : kind ≡ kinds.All → IsWalkOfAll nfa start text (lists_of states)
  pub leftmost_first : kind ≡ kinds.LeftmostFirst → IsLeftmostWalk nfa start text (lists_of states)
  pub values : states ≡ chain nfa kind start text
  pub records : RecordsReached nfa kind start text states
  pub follows : FollowsItself nfa kind text states
  pub resolve : All (λ (state : Value). AllResolve nfa state.states) states
