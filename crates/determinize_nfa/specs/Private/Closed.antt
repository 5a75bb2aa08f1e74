-- The states that the anchored start of an NFA reaches.
use Rattle.std.specs.Prelude.{◌≡◌, ◌++◌, ◌∷◌, ℕ, List, Some, [], cond, slice_get, true}
use Rattle.determinize_below.specs.Semantics.{state_at, Nfa}
use Rattle.determinize_below.specs.Members.{has_id}
use Rattle.determinize_nfa.specs.Prefix.{leads_to}

-- the id is one of these
abbrev pub Has : List ℕ → ℕ → Type 0
Has ids id = (i : ℕ) × (slice_get ids i ≡ Some id)

-- the states have the anchored start, and each state that one of them has a transition to
pub record IsClosed (nfa : Nfa) (met : List ℕ) : Type 0 where
  pub start : Has met nfa.start_anchored
  pub further : (s t : ℕ) → Has met s → leads_to t (state_at nfa s) ≡ true → Has met t

-- the ids with one more at the end, if it is new
abbrev pub visited : List ℕ → ℕ → List ℕ
visited ids id = cond (has_id ids id) ids (ids ++ id ∷ [])

-- the ids with those of a list
abbrev pub all_visited : List ℕ → List ℕ → List ℕ
all_visited ids [] = ids
all_visited ids (x ∷ xs) = all_visited (visited ids x) xs
