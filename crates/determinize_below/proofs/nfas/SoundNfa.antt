-- Validation gives what a walk needs of an NFA.
-- Main statements: IsSound, accepted_sound, edges_enough, reach_within.
-- Used by: nearly all proofs about closures and steps.
-- Idea: each edge goes to a state, a pattern has one `Match`, and fuel one above the number of states is enough.
use Rattle.determinize_below.proofs.Common.{nat_tests, [], ap, arith, Bool, by_cases, cases_lt, Dense, edges, edges_of, Fail, false, false≢true, fun_ext, get_or, is_match_of, IsAccepted, length, List, list_any_at, Match, member, nat_eq, Nfa, Node, None, Option, option_to_list, or_left, pattern_in, pattern_of, refl, slice_get, Some, Sparse, state_at, state_failure, states_failure, subst, suc, take, target, target_of, Transition, true, zero, ℕ, ◌++◌, ◌+◌, ◌<◌, ◌∙◌, ◌∷◌, ◌≡◌, ◌≤◌, or-false, append_assoc, nat_lt, flat_map, list_all, cases_order, and_parts, ltb-true, lt-ltb, append-nil, get_or-take, slice_get-get_or, resolves, is_repeated, is_sparse_sound, is_dense_sound, ends, none_held, ordered, by_option, length-take, find, option_map, Assertion}
use Rattle.determinize_below.specs.Edges.{reach, reach_past}
use Rattle.determinize_below.specs.Transition as transitions
use Rattle.determinize_below.proofs.nfas.Edges.{state_past}
use Rattle.ordered_reach.proofs.graph.ClosedSets.{IsEnough, ends_within}
use Rattle.ordered_reach.proofs.graph.FiniteGraphs.{IsEnough-below, fresh_below, length-fresh_below, same_decides}
use Rattle.ordered_reach.proofs.graph.StackSearch.{ordered-append}
use Rattle.ordered_reach.proofs.lists.NewNodes.{flat_map-member}

-- what validation gives: an edge goes to a state, and a pattern has one `Match`
pub record IsSound (nfa : Nfa) : Type 0 where
  pub resolves : (holds : Assertion → Bool) (s t : ℕ) → member nat_eq (edges nfa holds s) t ≡ true
      → t < length nfa.states
  pub one_match : (i j p : ℕ) → pattern_of nfa i ≡ Some p → pattern_of nfa j ≡ Some p → i ≡ j

-- the facts of a state without an error, after the earlier states
pub record HasPassed (count : ℕ) (earlier : List Node) (s : Node) : Type 0 where
  pub resolves : resolves count s ≡ true
  pub ascends : is_sparse_sound s ≡ true
  pub whole : is_dense_sound s ≡ true
  pub first_match : is_repeated earlier s ≡ false

state_passes : (count : ℕ) (earlier : List Node) (i : ℕ) (s : Node) → state_failure count earlier i s ≡ None
    → HasPassed count earlier s
state_passes count earlier i s e = grind arith

all_pass : (count : ℕ) (earlier : List Node) (i : ℕ) (xs : List Node) → states_failure count earlier i xs ≡ None
    → (j : ℕ) (s : Node) → slice_get xs j ≡ Some s
    → HasPassed count (earlier ++ take j xs) s
all_pass count earlier i [] e j s h = cc
all_pass count earlier i (x ∷ xs) e j s h = by_option (state_failure count earlier i x)
    (λ k. go j h (state_passes count earlier i x k) (all_pass count (earlier ++ x ∷ []) (i + 1) xs (rw k at e)))
    (λ b k. cc)
  where
    go : (j : ℕ) → slice_get (x ∷ xs) j ≡ Some s → HasPassed count earlier x
        → ((j : ℕ) (s : Node) → slice_get xs j ≡ Some s → HasPassed count ((earlier ++ x ∷ []) ++ take j xs) s)
        → HasPassed count (earlier ++ take j (x ∷ xs)) s
    go zero h p ih = let q : x ≡ s = cc in rw (append-nil earlier, ← q) p
    go (suc j) h p ih = subst (λ l. HasPassed count l s) (append_assoc earlier (x ∷ []) (take j xs)) (ih j s h)

-- an element of a list whose elements all pass
list_all_member : (p : ℕ → Bool) (xs : List ℕ) (t : ℕ) → list_all p xs ≡ true → member nat_eq xs t ≡ true → p t ≡ true
list_all_member p [] t a m = absurd (false≢true m)
list_all_member p (x ∷ xs) t a m = grind (arith, same_decides x t, list_all_member p xs t)

-- the epsilon transitions of a state whose ids are in range
edges_resolve : (count : ℕ) (holds : Assertion → Bool) (s : Node) → resolves count s ≡ true
    → list_all (λ t. nat_lt t count) (edges_of holds s) ≡ true
edges_resolve count holds s r = grind arith

sparse_resolves : (count : ℕ) (p : Transition → Bool) (ts : List Transition)
    → list_all (λ t. nat_lt t.next count) ts ≡ true
    → list_all (λ t. nat_lt t count) (option_to_list (option_map (λ t. t.next) (find p ts))) ≡ true
sparse_resolves count p [] a = refl
sparse_resolves count p (t ∷ ts) a = grind (arith, sparse_resolves count p ts)

-- an entry of a dense state that is not 0 is an element of its list
dense_resolves : (count : ℕ) (ids : List ℕ) (byte : ℕ) → list_all (λ id. nat_lt id count) ids ≡ true
    → list_all (λ t. nat_lt t count) (option_to_list (transitions.dense_target ids byte)) ≡ true
dense_resolves count [] byte a = refl
dense_resolves count (id ∷ ids) zero a = grind arith
dense_resolves count (id ∷ ids) (suc byte) a = dense_resolves count ids byte (and_parts _ _ a).1

-- the target of a state whose ids are in range
targets_resolve : (count : ℕ) (u : Option ℕ) (s : Node) → resolves count s ≡ true
    → list_all (λ t. nat_lt t count) (option_to_list (target_of u s)) ≡ true
targets_resolve count (Some byte) (Sparse ts) r = sparse_resolves count (λ x. transitions.matches x byte) ts r
targets_resolve count (Some byte) (Dense ids) r = dense_resolves count ids byte r
targets_resolve count u s r = grind arith

pub match_in : (s : Node) (p : ℕ) → pattern_in s ≡ Some p → s ≡ Match p
match_in s p e = grind arith

module _ (nfa : Nfa) (a : IsAccepted nfa) where
  -- each state is valid after those before it
  pub each_passes : (j : ℕ) (s : Node) → slice_get nfa.states j ≡ Some s
      → HasPassed (length nfa.states) (take j nfa.states) s
  each_passes =
      let none : states_failure (length nfa.states) [] 0 nfa.states ≡ None = grind (arith, a.passes) in
      all_pass (length nfa.states) [] 0 nfa.states none

  state_resolves : (s : ℕ) → resolves (length nfa.states) (state_at nfa s) ≡ true
  state_resolves s = by_cases (cases_lt s (length nfa.states))
      (λ l. (each_passes s (state_at nfa s) (slice_get-get_or nfa.states s Fail l)).resolves)
      (λ l. rw (state_past nfa s l) refl)

  below_count : (xs : List ℕ) (t : ℕ) → list_all (λ y. nat_lt y (length nfa.states)) xs ≡ true
      → member nat_eq xs t ≡ true → t < length nfa.states
  below_count xs t all m = ltb-true t _ (list_all_member (λ y. nat_lt y (length nfa.states)) xs t all m)

  match_within : (i p : ℕ) → pattern_of nfa i ≡ Some p → (i < length nfa.states) × (get_or nfa.states i Fail ≡ Match p)
  match_within i p e = grind (arith, state_past)

  not_earlier : (i j p : ℕ) → i < j → pattern_of nfa i ≡ Some p → pattern_of nfa j ≡ Some p → ⊥
  not_earlier i j p l x y =
      let u = match_within i p x in
      let v = match_within j p y in
      let w = each_passes j (Match p) (slice_get-get_or nfa.states j Fail v.0 ∙ ap Some v.1) in
      grind (
        arith,
        nat_tests,
        w.first_match,
        u,
        get_or-take j nfa.states i Fail l,
        length-take j nfa.states,
        list_any_at (is_match_of p) (take j nfa.states) i Fail,
      )

  -- a valid NFA is sound
  pub accepted_sound : IsSound nfa
  accepted_sound = record {
    resolves = λ holds s t. below_count _ t (edges_resolve _ holds (state_at nfa s) (state_resolves s));
    one_match = λ i j p x y. by_cases (cases_order i j) (λ e. e)
        (λ h. by_cases h (λ l. absurd (not_earlier i j p l x y)) (λ l. absurd (not_earlier j i p l y x)));
  }

  -- the target of a state on a unit is a state
  pub target_within : (u : Option ℕ) (s t : ℕ) → member nat_eq (target nfa u s) t ≡ true → t < length nfa.states
  target_within u s t = below_count _ t (targets_resolve _ u (state_at nfa s) (state_resolves s))

module _ (nfa : Nfa) (sound : IsSound nfa) (holds : Assertion → Bool) where
  -- fuel one above the number of states is enough for a search
  pub edges_enough : (s : ℕ) → IsEnough nat_eq (edges nfa holds) (length nfa.states + 1) none_held s
  edges_enough s = let z : suc (length nfa.states) ≡ length nfa.states + 1 = omega arith in
      subst (λ n. IsEnough nat_eq (edges nfa holds) n none_held s) z
      (IsEnough-below (edges nfa holds) (length nfa.states) (sound.resolves holds) s)

  -- the closure of more roots continues with the states reached so far visited
  pub reach-append : (roots more : List ℕ)
      → reach nfa holds (roots ++ more) ≡ reach nfa holds roots ++ reach_past nfa holds (reach nfa holds roots) more
  unfolding reach reach_past
  reach-append roots more =
      ordered-append same_decides (edges nfa holds) (length nfa.states + 1) edges_enough none_held roots more
      ∙ ap (λ h. reach nfa holds roots ++ ordered nat_eq (edges nfa holds) (length nfa.states + 1) h more)
      (fun_ext (λ x. or-false (member nat_eq (reach nfa holds roots) x)))

  -- a closure of states of the NFA has only states of the NFA
  pub ends_within_states : (count : ℕ) (held : ℕ → Bool) (roots : List ℕ)
      → ((r : ℕ) → member nat_eq roots r ≡ true → r < length nfa.states)
      → (x : ℕ) → member nat_eq (flat_map (ends nat_eq (edges nfa holds) count held) roots) x ≡ true
      → x < length nfa.states
  ends_within_states count held roots inside x m =
      flat_map-member same_decides (ends nat_eq (edges nfa holds) count held) roots x m (λ r l z.
      ltb-true x (length nfa.states)
      (ends_within same_decides (edges nfa holds) count (λ y. nat_lt y (length nfa.states)) none_held held r x
      (λ y w p q. or_left (nat_lt w (length nfa.states)) false
      (lt-ltb w (length nfa.states) (sound.resolves holds y w q)))
      (λ y h. absurd (false≢true h))
      (or_left (nat_lt r (length nfa.states)) false (lt-ltb r (length nfa.states) (inside r l))) z))

  pub reach_within : (roots : List ℕ) → ((r : ℕ) → member nat_eq roots r ≡ true → r < length nfa.states) → (x : ℕ)
      → member nat_eq (reach nfa holds roots) x ≡ true → x < length nfa.states
  unfolding reach
  reach_within roots inside =
      fresh_below (length nfa.states) (flat_map (ends nat_eq (edges nfa holds) (length nfa.states + 1) none_held) roots)
      (ends_within_states (length nfa.states + 1) none_held roots inside)

  -- a closure lists each state at most once
  pub length-reach : (roots : List ℕ) → ((r : ℕ) → member nat_eq roots r ≡ true → r < length nfa.states)
      → length (reach nfa holds roots) ≤ length nfa.states
  unfolding reach
  length-reach roots inside =
      length-fresh_below (length nfa.states)
      (flat_map (ends nat_eq (edges nfa holds) (length nfa.states + 1) none_held) roots)
      (ends_within_states (length nfa.states + 1) none_held roots inside)
