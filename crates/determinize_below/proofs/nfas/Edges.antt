-- The epsilon transitions and targets of NFA states under sets of assertions.
-- Main statements: edges-agree, edges-more, edges-capture, edges-or-target.
-- Used by: SoundNfa, and the steps of a walk.
-- Idea: by the kinds of states; only a `Look` state depends on the set.
use Rattle.determinize_below.proofs.Common.{[], ap, arith, Bool, edges, Fail, false, fun_ext, IsTested, length, List, member, nat_eq, Nfa, None, Option, option_to_list, pattern_of, Some, state_at, target, true, ℕ, ◌∷◌, ◌≡◌, ◌≤◌, ◌⊎◌, is_capture, patterns_of, is_match, assertion_of, get_or_past, Assertion}
use Rattle.determinize_below.specs.Captures.{capture_next}
use Rattle.ordered_reach.specs.Runs.{without}
use Rattle.ordered_reach.proofs.lists.Pieces.{flat_map-without}

-- sets that agree on the assertion of a state give it the same edges
pub edges-agree : (nfa : Nfa) (holds others : Assertion → Bool) (s : ℕ)
    → ((look : Assertion) → assertion_of nfa s ≡ Some look → holds look ≡ others look)
    → edges nfa holds s ≡ edges nfa others s
edges-agree nfa holds others s h = grind arith

-- sets that agree on all assertions of an NFA give the same edges
pub edges-same : (nfa : Nfa) (holds others : Assertion → Bool)
    → ((look : Assertion) → IsTested nfa look → holds look ≡ others look) → edges nfa holds ≡ edges nfa others
edges-same nfa holds others h = fun_ext (λ s. edges-agree nfa holds others s (λ look e. h look (s, e)))

-- a larger set gives more edges
pub edges-more : (nfa : Nfa) (holds others : Assertion → Bool) (s y : ℕ)
    → ((look : Assertion) → holds look ≡ true → others look ≡ true) → member nat_eq (edges nfa holds s) y ≡ true
    → member nat_eq (edges nfa others s) y ≡ true
edges-more nfa holds others s y h m = grind arith

-- the set of all assertions gives the most edges
pub length-edges : (nfa : Nfa) (holds : Assertion → Bool) (s : ℕ)
    → length (edges nfa holds s) ≤ length (edges nfa (λ look. true) s)
length-edges nfa holds s = grind arith

module _ (nfa : Nfa) where
  pattern-capture : (s : ℕ) → is_capture nfa s ≡ true → pattern_of nfa s ≡ None
  pattern-capture s e = grind arith

  -- the target of a state, if it is a capture
  abbrev pub next_of : ℕ → ℕ
  next_of s = capture_next (state_at nfa s)

  pub edges-capture : (holds : Assertion → Bool) (s : ℕ) → is_capture nfa s ≡ true → edges nfa holds s ≡ next_of s ∷ []
  edges-capture holds s e = grind arith

  pub target-capture : (u : Option ℕ) (s : ℕ) → is_capture nfa s ≡ true → target nfa u s ≡ []
  target-capture u s e = grind arith

  pub match-capture : (s : ℕ) → is_match nfa s ≡ true → is_capture nfa s ≡ false
  match-capture s e = grind arith

  -- leaving out captures does not change the patterns
  pub patterns-without : (xs : List ℕ) → patterns_of nfa (without (is_capture nfa) xs) ≡ patterns_of nfa xs
  patterns-without xs =
      flat_map-without (λ x. option_to_list (pattern_of nfa x)) (is_capture nfa) xs
      (λ x e. ap option_to_list (pattern-capture x e))

-- no state has a transition on EOI
pub target-end : (nfa : Nfa) (s : ℕ) → target nfa None s ≡ []
target-end nfa s = grind arith

-- a state has at most one target on a unit
pub length-target : (nfa : Nfa) (u : Option ℕ) (s : ℕ) → length (target nfa u s) ≤ 1
length-target nfa u s = grind arith

-- a state has epsilon transitions, or a target on a unit, but not both
pub edges-or-target : (nfa : Nfa) (holds : Assertion → Bool) (u : Option ℕ) (s : ℕ)
    → (edges nfa holds s ≡ []) ⊎ (target nfa u s ≡ [])
edges-or-target nfa holds u s = grind arith

-- an id out of range
pub state_past : (nfa : Nfa) (s : ℕ) → length nfa.states ≤ s → state_at nfa s ≡ Fail
state_past nfa s l = get_or_past nfa.states s Fail l
