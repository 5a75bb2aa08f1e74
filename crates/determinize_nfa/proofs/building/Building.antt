-- What a builder adds, and that the prefix which it puts before a start is the usual one.
-- Main statements: node_is, same_node, has_prefix_apart, is_ahead, none_ahead, unfit_too_many,
-- unfit_memory.
-- Used by: `patch`, `close`, `build_with_prefix` and `push_state` of the module `builder`.
-- Idea: no state before the prefix has a transition to it, so only the skip has one to its start.
use Rattle.determinize_nfa.proofs.Common.{BinaryUnion, Bool, BuildError, BuilderValue, ByteRange, Fail, HasPrefix}
use Rattle.determinize_nfa.proofs.Common.{HasPrefixApart, ID_LIMIT, IsApart, IsUnfit, List, MAX_ID, Node, None}
use Rattle.determinize_nfa.proofs.Common.{OutOfMemory, Some, TooManyStates, [], ap, arith, built, by_cases, cases_lt}
use Rattle.determinize_nfa.proofs.Common.{false, false≢true, get_or, get_or-map, if_err_and, inl, inr, leads_to, length}
use Rattle.determinize_nfa.proofs.Common.{length-append, length-map, map, map-append, nat_lt, nat_tests, prefixed, refl}
use Rattle.determinize_nfa.proofs.Common.{suc, sym, true, zero, ℕ, ◌++◌, ◌+◌, ◌-◌, ◌<◌, ◌∙◌, ◌∷◌, ◌≡◌, ◌≤◌}
use Rattle.std.proofs.lemmas.Bool.{lt-ltb, or_cases}
use Rattle.ordered_reach.proofs.Cases.{or_false_left, or_false_right}
use Rattle.std.specs.List.{position, position_or_len}
use Rattle.std.proofs.lemmas.List.{get_or-append-add, get_or_append_left}
use Rattle.std.proofs.lemmas.List.Quantifiers.{position-Some}
use Rattle.std.proofs.lemmas.List.Sums.{fails_before_first}
use Rattle.determinize_below.specs.declared.nfa.BuildError.TheVariants.{UnresolvedId}
use Rattle.determinize_nfa.specs.Builder.{has_transition_to}
use Rattle.std.proofs.Common.{Result}
use Rattle.std.specs.Prelude.{IfErr, IsErrAnd}

-- the states that a builder is seen as, of which the program looks at one
module _ {V : Type 0} (f : V → Node) (xs : List V) {patterns terminator : ℕ} {b : BuilderValue}
    (is : ◌≡◌ {A = BuilderValue} record { states = map f xs; patterns = patterns; terminator = terminator } b)
    {i s : ℕ} (e : i ≡ s) (l : i < length xs) where
  pub node_is : (x : V) → x ≡ get_or xs i x → get_or b.states s Fail ≡ f x
  node_is x h = rw (← is, ← e, get_or-map f xs i x Fail l, ← h) refl

  pub same_node : (x y : V) → x ≡ get_or xs i x → y ≡ get_or xs i y → f x ≡ f y
  same_node x y h k = sym (node_is x h) ∙ node_is y k

-- the rule for one more state
pub ruleset pushing = (map-append)

-- the first state that passes a test
module _ {V : Type 0} (f : V → Node) (p : Node → Bool) where
  len-map : (xs : List V) → position_or_len (λ x. p (f x)) xs ≡ position_or_len p (map f xs)
  len-map [] = refl
  len-map (x ∷ xs) = let h = len-map xs in rw h refl

  position-map : (xs : List V) → position (λ x. p (f x)) xs ≡ position p (map f xs)
  position-map xs = rw (len-map xs, length-map xs f) refl

  pub first_passes : (xs : List V) (i : ℕ) → position (λ x. p (f x)) xs ≡ Some i → p (get_or (map f xs) i Fail) ≡ true
  first_passes xs i e = (position-Some p (map f xs) i Fail (sym (position-map xs) ∙ e)).1

  pub none_passes : (xs : List V) → position (λ x. p (f x)) xs ≡ None
      → (s : ℕ) → s < length (map f xs) → p (get_or (map f xs) s Fail) ≡ false
  none_passes xs e s l =
      let none : position p (map f xs) ≡ None = rw (position-map xs) at e in
      fails_before_first p (map f xs) s Fail (grind (arith, nat_tests, none, l))

-- the prefix of a start
module _ (b : BuilderValue) (start : ℕ) where
  abbrev last_two : List Node
  last_two = BinaryUnion start (suc (length b.states))
      ∷ ByteRange record { start = 0; end = 255; next = length b.states } ∷ []

  at : (k s : ℕ) → s ≡ length b.states + k → get_or (b.states ++ last_two) s Fail ≡ get_or last_two k Fail
  at k s e = ap (λ w. get_or (b.states ++ last_two) w Fail) e ∙ get_or-append-add b.states last_two k Fail

  -- a state that leads where no state that was added leads is one of the last two
  last_leads : {P : Type 0} (w s : ℕ)
      → ((s : ℕ) → s < length b.states → leads_to w (get_or b.states s Fail) ≡ false)
      → leads_to w (get_or (b.states ++ last_two) s Fail) ≡ true
      → (s ≡ length b.states → leads_to w (get_or last_two 0 Fail) ≡ true → P)
      → (s ≡ suc (length b.states) → leads_to w (get_or last_two 1 Fail) ≡ true → P) → P
  last_leads {P} w s none h f g = by_cases (cases_lt s (length b.states))
      (λ k. absurd (false≢true (sym (none s k) ∙ rw (get_or_append_left b.states last_two Fail s k) at h)))
      (λ k. let z : s ≡ length b.states + (s - length b.states) = omega arith in
      last (s - length b.states) z (rw (at (s - length b.states) s z) at h))
    where
      last : (k : ℕ) → s ≡ length b.states + k → leads_to w (get_or last_two k Fail) ≡ true → P
      last zero e l = f (omega arith) l
      last (suc zero) e l = g (omega arith) l
      last (suc (suc k)) e l = absurd (false≢true l)

  has_prefix : start < length b.states
      → ((s : ℕ) → s < length b.states → leads_to (length b.states) (get_or b.states s Fail) ≡ false)
      → HasPrefix (built (prefixed b start) start (length b.states))
  has_prefix l none = record {
    skip = suc (length b.states);
    first = at 0 (length b.states) (omega arith);
    any = at 1 (suc (length b.states)) (omega arith);
    alone = λ s h. last_leads (length b.states) s none h (λ e k. absurd (grind (arith, nat_tests, k))) (λ e k. e);
  }

  pub has_prefix_apart : start < length b.states → IsApart b
      → HasPrefixApart (built (prefixed b start) start (length b.states))
  unfolding has_prefix
  has_prefix_apart l is = record {
    prefix = has_prefix l is.union;
    apart = λ s h. last_leads (suc (length b.states)) s is.skip h (λ e k. e)
        (λ e k. absurd (grind (arith, nat_tests, k)));
  }

-- whether some state has a transition to the prefix
module _ (b : BuilderValue) (start union skip : ℕ) (e : union ≡ length b.states)
    (k : skip ≡ suc (length b.states)) where
  pub is_ahead : (i : ℕ) → has_transition_to union skip (get_or b.states i Fail) ≡ true
      → IsUnfit b start (UnresolvedId i)
  is_ahead i h = inr (inl (inr (by_cases
      (or_cases (leads_to union (get_or b.states i Fail)) (leads_to skip (get_or b.states i Fail)) h)
      (λ d. (i, union, refl, omega (arith, e), d))
      (λ d. (i, skip, refl, omega (arith, k), d)))))

  pub none_ahead : ((s : ℕ) → s < length b.states → has_transition_to union skip (get_or b.states s Fail) ≡ false)
      → IsApart b
  none_ahead f = record {
    union = λ s l. rw (← e) (or_false_left _ _ (f s l));
    skip = λ s l. rw (← k) (or_false_right _ _ (f s l));
  }

pub unfit_too_many : (b : BuilderValue) (start n : ℕ) → n ≤ suc (length b.states) → (n ≤ MAX_ID → ⊥) → (e : BuildError)
    → e ≡ TooManyStates → IsUnfit b start e
unfit_too_many b start n within above e h =
    let many : nat_lt ID_LIMIT (length (prefixed b start).states) ≡ true
    = lt-ltb ID_LIMIT (length (prefixed b start).states) (simp length-append (omega arith)) in
    inl (rw many (ap Some (sym h)))

pub unfit_memory : {T : Type 0} (r : Result T BuildError) (b : BuilderValue) (start : ℕ)
    → IsErrAnd r (λ e. e ≡ OutOfMemory) → IfErr r (IsUnfit b start)
unfit_memory r b start h = if_err_and r _ _ (λ e z. inr (inr z)) h
