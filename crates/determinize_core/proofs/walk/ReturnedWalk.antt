-- The values of a chain are what a walk returns.
-- Main statements: is_walk, walk_begins, walk_goes_on, walk_ends, walk_pushes, walk_pushes_last.
-- Used by: `walk_between`, also that of the cache.
-- Idea: the values so far are followed by those over the bytes that are left.
use Rattle.determinize_core.proofs.Common.{[], All-cons, All-nil, AllResolve, append_assoc, arith, between, chain}
use Rattle.determinize_core.proofs.Common.{dead, drop, future, get_or, IsAccepted, length, List, map, MatchKind, Nfa}
use Rattle.determinize_core.proofs.Common.{Option, refl, Some, start_value, step, sym, take, take_all, take_more, Text}
use Rattle.determinize_core.proofs.Common.{Value, ℕ, ◌++◌, ◌+◌, ◌<◌, ◌∙◌, ◌∷◌, ◌≡◌, ◌≤◌}
use Rattle.std.proofs.Common.{All as Each}
use Rattle.std.proofs.Math.Seq.{get_or-append_seam, take-append_seam}
use Rattle.std.proofs.lemmas.List.{drop_all, drop_more}
use Rattle.determinize_core.specs.WholeWalk.{IsWalk}
use Rattle.determinize_core.proofs.step.Resolving.{start_resolves, step_resolves}
use Rattle.determinize_core.proofs.step.StepLaws.{each_future_follows}
use Rattle.determinize_core.proofs.walk.UnitLists.{chain_is_future}
use Rattle.determinize_core.proofs.walk.WalkOfRuns.{chain-first, chain_leftmost, chain_of_all, each_chain_reaches}
use Rattle.determinize_core.proofs.walk.WalkValues.{length-chain}

-- the states of the values of a walk are states of the NFA
future_resolves : (nfa : Nfa) → IsAccepted nfa → (kind : MatchKind) (v : Value) (us : List (Option ℕ))
    → AllResolve nfa v.states → Each (λ (w : Value). AllResolve nfa w.states) (future nfa kind v us)
future_resolves nfa accepted kind v [] h = All-cons (λ w. AllResolve nfa w.states) v [] h (All-nil _)
future_resolves nfa accepted kind v (u ∷ us) h = All-cons (λ w. AllResolve nfa w.states) v _ h
    (future_resolves nfa accepted kind (step nfa kind v u) us (step_resolves nfa accepted kind v u))

pub is_walk : (nfa : Nfa) (kind : MatchKind) (start : ℕ) (text : Text) (states : List Value) → IsAccepted nfa
    → start < length nfa.states → states ≡ chain nfa kind start text → IsWalk nfa kind start text states
is_walk nfa kind start text states accepted resolves is = rw is (record {
  count = length-chain nfa kind start text;
  first = chain-first nfa kind start text;
  values = refl;
  all = λ k. rw k (chain_of_all nfa accepted start text);
  leftmost_first = λ k. rw k (chain_leftmost nfa accepted start text);
  records = each_chain_reaches nfa accepted kind start text;
  follows = each_future_follows nfa kind start text;
  resolve = rw (chain_is_future nfa kind start text.behind text.ahead text.bytes)
      (future_resolves nfa accepted kind _ _ (start_resolves nfa accepted start text.behind resolves));
})

-- the states so far, followed by those over what is left, are the walk: at the start, after a byte, and at the end
pub walk_begins : (nfa : Nfa) (kind : MatchKind) (start : ℕ) (behind ahead : Option ℕ) (bytes : List ℕ) (v : Value)
    (states : List Value) → v ≡ start_value nfa start behind → states ≡ []
    → states ++ future nfa kind v (map Some bytes ++ ahead ∷ []) ≡ chain nfa kind start (between behind bytes ahead)
walk_begins nfa kind start behind ahead bytes v states first none =
    rw (first, none) (sym (chain_is_future nfa kind start behind ahead bytes))

pub walk_goes_on : (nfa : Nfa) (kind : MatchKind) (ahead : Option ℕ) (bytes : List ℕ) (i : ℕ) (v next : Value)
    (states after : List Value) → i < length bytes → next ≡ step nfa kind v (Some (get_or bytes i 0))
    → after ≡ states ++ v ∷ []
    → after ++ future nfa kind next (map Some (drop (i + 1) bytes) ++ ahead ∷ [])
    ≡ states ++ future nfa kind v (map Some (drop i bytes) ++ ahead ∷ [])
walk_goes_on nfa kind ahead bytes i v next states after within is pushed =
    rw (is, pushed, drop_more bytes i 0 within) (append_assoc states (v ∷ []) _)

pub walk_ends : (nfa : Nfa) (kind : MatchKind) (ahead : Option ℕ) (bytes : List ℕ) (i : ℕ) (v last : Value)
    (states after all : List Value) → length bytes ≤ i → last ≡ step nfa kind v ahead → after ≡ states ++ v ∷ []
    → all ≡ after ++ last ∷ [] → all ≡ states ++ future nfa kind v (map Some (drop i bytes) ++ ahead ∷ [])
walk_ends nfa kind ahead bytes i v last states after all none is pushed whole =
    rw (whole, pushed, is, drop_all i bytes none) (append_assoc states (v ∷ []) _)

-- a list is its elements before the one at index i, and that one, if it is the last
up_to_last : (states : List Value) (i : ℕ) → length states ≡ i + 1 → states ≡ take i states ++ get_or states i dead ∷ []
up_to_last states i count =
    sym (take_all (i + 1) states (omega (arith, count))) ∙ take_more states i dead (omega (arith, count))

-- the same after a byte and at the end, where the last state so far is in the list
module _ (nfa : Nfa) (kind : MatchKind) (ahead : Option ℕ) (bytes : List ℕ) (i : ℕ) (states after : List Value)
    (count : length states ≡ i + 1) where
  pub walk_pushes : i < length bytes
      → after ≡ states ++ step nfa kind (get_or states i dead) (Some (get_or bytes i 0)) ∷ []
      → take (i + 1) after ++ future nfa kind (get_or after (i + 1) dead) (map Some (drop (i + 1) bytes) ++ ahead ∷ [])
      ≡ take i states ++ future nfa kind (get_or states i dead) (map Some (drop i bytes) ++ ahead ∷ [])
  walk_pushes within pushed =
      walk_goes_on nfa kind ahead bytes i (get_or states i dead) (get_or after (i + 1) dead) (take i states)
      (take (i + 1) after) within (rw (pushed, ← count) (get_or-append_seam states _ [] dead))
      (rw (pushed, ← count) (take-append_seam states _) ∙ up_to_last states i count)

  pub walk_pushes_last : length bytes ≤ i → after ≡ states ++ step nfa kind (get_or states i dead) ahead ∷ []
      → after ≡ take i states ++ future nfa kind (get_or states i dead) (map Some (drop i bytes) ++ ahead ∷ [])
  walk_pushes_last none pushed =
      walk_ends nfa kind ahead bytes i (get_or states i dead) _ (take i states) states after none refl
      (up_to_last states i count) pushed
