-- The working list of a step: the recorded states, each once, and their closure.
-- Main statements: distinct-push, closed_list, closed_tries, reopened_list, reopened_tries.
-- Used by: `collect_states`, `read_working_list`.
-- Idea: a set that was empty collects the list.
use Rattle.determinize_core.proofs.Common.{[], append-nil, arith, distinct, distinct_states, false, has, has_id}
use Rattle.determinize_core.proofs.Common.{if◌then◌else◌}
use Rattle.determinize_core.proofs.Common.{is_reopened, IsReopened, List, Nfa, none_held, Option, reach, reach_past}
use Rattle.determinize_core.proofs.Common.{refl}
use Rattle.determinize_core.proofs.Common.{same_decides, tries_again, tries_left, Value, working_list, ℕ, ◌++◌, ◌∷◌}
use Rattle.determinize_core.proofs.Common.{◌≡◌}
use Rattle.ordered_reach.proofs.lists.NewNodes.{fresh-append, fresh-fresh, member-fresh}
use Rattle.determinize_core.proofs.closure.ClosureSteps.{holds-member}
use Rattle.determinize_core.proofs.closure.EmptySearch.{reach_past-empty, tries_left-empty}

-- one more item of a list is a distinct one, or adds nothing
pub distinct-push : (xs : List ℕ) (x : ℕ)
    → distinct (xs ++ x ∷ []) ≡ (if has_id (distinct xs) x then distinct xs else distinct xs ++ x ∷ [])
distinct-push xs x = grind (
  arith,
  append-nil (distinct xs),
  holds-member (distinct xs) x,
  member-fresh same_decides none_held xs x,
  fresh-append same_decides none_held xs (x ∷ []),
)

-- where the closure is not reopened, the recorded states are the working list, and nothing is tried again
module _ (nfa : Nfa) (v : Value) (u : Option ℕ) (closed : is_reopened nfa v u ≡ false) where
  pub closed_list : working_list nfa v u ≡ distinct_states v
  closed_list = rw closed refl

  pub closed_tries : tries_again nfa v u ≡ 0
  closed_tries = rw closed refl

module _ {nfa : Nfa} {v : Value} {u : Option ℕ} {set : ℕ} {held roots : List ℕ} (opened : IsReopened nfa v u set)
    (empty : held ≡ []) (all : roots ≡ distinct_states v) where
  -- a search into an empty set, from the recorded states, makes the working list
  pub reopened_list : distinct (held ++ reach_past nfa (has set) held roots) ≡ working_list nfa v u
  unfolding reach
  reopened_list = rw (empty, all, reach_past-empty, opened.set_is, opened.reopened)
      (fresh-fresh same_decides none_held none_held _ (λ x m. m))

  -- by these tries
  pub reopened_tries : tries_left nfa (has set) held roots ≡ tries_again nfa v u
  reopened_tries = rw (empty, all, tries_left-empty, opened.set_is, opened.reopened) refl
