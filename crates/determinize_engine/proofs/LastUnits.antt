-- The last match of a walk where no NFA state is left, over more units, and where it ends.
-- Main statements: step_over, last_match-over, last_match-within.
-- Used by: SearchMatches, Later, the searches of both DFAs, and `determinize_find`.
-- Idea: a value without NFA states steps to the dead value, after which no value lists a pattern.
use Rattle.determinize_core.proofs.Common.{[], arith, by_test, dead, future, IfSome}
use Rattle.determinize_core.proofs.Common.{is_reopened, last_ended, last_match, length, List, MatchKind, Nfa}
use Rattle.determinize_core.proofs.Common.{None, Option, refl, step, suc, sym, Value, value_after, working_list}
use Rattle.determinize_core.proofs.Common.{ℕ, ◌++◌, ◌+◌, ◌<◌, ◌∙◌, ◌∷◌, ◌≡◌}
use Rattle.determinize_core.proofs.closure.EmptySearch.{reach-none}
use Rattle.determinize_core.proofs.step.StepLaws.{dead_stays}
use Rattle.determinize_core.proofs.walk.LastMatches.{future_is, length-tail, tail}
use Rattle.std.proofs.Math.Nat.{zero-add}

-- a value that records no NFA states

working_none : (nfa : Nfa) (v : Value) (u : Option ℕ) → v.states ≡ [] → working_list nfa v u ≡ []
working_none nfa v u none =
    rw none (by_test (is_reopened nfa v u) (λ e. rw e (reach-none nfa _)) (λ e. rw e))

pub step_over : (nfa : Nfa) (kind : MatchKind) (v : Value) (u : Option ℕ) → v.states ≡ [] → step nfa kind v u ≡ dead
unfolding step
step_over nfa kind v u none =
    let e : step nfa kind v u ≡ step nfa kind dead u = rw (working_none nfa v u none, working_none nfa dead u refl) in
    e ∙ (dead_stays nfa kind u).0

module _ (nfa : Nfa) (kind : MatchKind) where
  -- no match is reported after the dead value
  none_dead : (n : ℕ) (us : List (Option ℕ)) → last_ended n (future nfa kind dead us) ≡ None
  none_dead n [] = refl
  none_dead n (u ∷ us) = rw ((dead_stays nfa kind u).0, none_dead (suc n) us)

  -- nor after a value that records no NFA states
  tail-over : (n : ℕ) (v : Value) (us rest : List (Option ℕ)) → (value_after nfa kind v us).states ≡ []
      → last_ended n (tail nfa kind v (us ++ rest)) ≡ last_ended n (tail nfa kind v us)
  tail-over n v [] [] h = refl
  tail-over n v [] (u ∷ rest) h = rw (step_over nfa kind v u h) (none_dead n rest)
  tail-over n v (u ∷ us) rest h =
      let e = tail-over (suc n) (step nfa kind v u) us rest h in
      rw (future_is nfa kind (step nfa kind v u) (us ++ rest), future_is nfa kind (step nfa kind v u) us, e)

  -- the last match stays where no NFA state is left
  pub last_match-over : (v : Value) (us rest : List (Option ℕ)) → (value_after nfa kind v us).states ≡ []
      → last_match (future nfa kind v us) ≡ last_match (future nfa kind v (us ++ rest))
  last_match-over v us rest h =
      rw (future_is nfa kind v us, future_is nfa kind v (us ++ rest)) (sym (tail-over 0 v us rest h))

  -- a match ends within what was read
  last_ended-within : (n : ℕ) (vs : List Value) → IfSome (last_ended n vs) (λ m. m.offset < n + length vs)
  last_ended-within n [] = tt
  last_ended-within n (v ∷ vs) = grind (arith, last_ended-within (suc n) vs)

  pub last_match-within : (v : Value) (us : List (Option ℕ))
      → IfSome (last_match (future nfa kind v us)) (λ m. m.offset < length us)
  last_match-within v us =
      rw (future_is nfa kind v us)
      (rw (zero-add, length-tail nfa kind v us) at (last_ended-within 0 (tail nfa kind v us)))
