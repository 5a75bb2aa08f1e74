-- Adding states to a builder one by one.
-- Main statements: added_one-after, added-none.
-- Used by: `add_states`, and the closure that records.
-- Idea: the value after a list is that after its first states and then one more.
use Rattle.determinize_state.proofs.Common.{◌≡◌, ℕ, not, List, [], ◌∷◌, ◌++◌, refl}
use Rattle.determinize_state.proofs.Common.{append_assoc, append-nil, filter-append, is_capture}
use Rattle.determinize_state.proofs.Common.{assertion_of, Nfa, without, by_test, added, added_one, needs}
use Rattle.determinize_state.proofs.Common.{with_assertion, Value}

module _ (nfa : Nfa) where
  needs-append : (set : ℕ) (xs ys : List ℕ) → needs nfa set (xs ++ ys) ≡ needs nfa (needs nfa set xs) ys
  needs-append set [] ys = refl
  needs-append set (x ∷ xs) ys = needs-append (with_assertion set (assertion_of nfa x)) xs ys

  added-append : (v : Value) (xs ys : List ℕ) → added nfa (added nfa v xs) ys ≡ added nfa v (xs ++ ys)
  added-append v xs ys = rw (needs-append v.look_need xs ys, append_assoc v.states xs ys)

  -- one more state after those of a list
  pub added_one-after : (v : Value) (xs : List ℕ) (s : ℕ)
      → added_one nfa (added nfa v (without (is_capture nfa) xs)) s
      ≡ added nfa v (without (is_capture nfa) (xs ++ s ∷ []))
  added_one-after v xs s =
      let both = filter-append (λ x. not (is_capture nfa x)) xs (s ∷ []) in
      by_test (is_capture nfa s)
      (λ e. rw (both, e, append-nil (without (is_capture nfa) xs)))
      (λ e. rw (both, e) (added-append v (without (is_capture nfa) xs) (s ∷ [])))

  -- no more state
  pub added-none : (v : Value) → v ≡ added nfa v []
  added-none v = rw (append-nil v.states)
