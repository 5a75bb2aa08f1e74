-- Tables with one more transition, which is a step of the DFA, are tables of steps (`IsTable`).
-- Main statements: empty-is, with_transition-is, with_target-new, not_source.
-- Used by: `determinize_lazy` (Rule, Cursors, Plenty, and `Lazy::new`), for its cache.
-- Idea: each transition is the new one or was there, and each state is its source, its target or was there.
use Rattle.determinize_table.proofs.Common.{arith, Bool, by_cases, by_option, Contains, empty, false, inl, inr, IsTable, List}
use Rattle.determinize_table.proofs.Common.{list_any, list_any-from_Contains, None, Option, refl, same, Some, sym, true}
use Rattle.determinize_table.proofs.Common.{Table, Value, with_target, with_transition, with_value, ℕ, ◌≡◌}
use Rattle.determinize_table.proofs.Values.{apart-with, has_more, has_new, of_with, with_target-by}
use Rattle.determinize_engine.proofs.Places.{not_both, not_none, of_some, same_laws}

-- the transitions are there
pub with_target-new : (over : Option ℕ → Bool) (target : Value → Option ℕ → Option Value) (v w : Value) (u : Option ℕ)
    → over u ≡ true → with_target over target v w v u ≡ Some w
with_target-new over target v w u in_it =
    with_target-by over target v w v u (λ o. o ≡ Some w) (λ _. refl) (λ no. absurd (no (refl, in_it)))

module _ (f : Value → Option ℕ → Value) where
  pub empty-is : IsTable f empty
  empty-is = record {
    apart = λ p q v e _. not_none (sym e);
    steps = λ v u w e. not_none (sym e);
    ends = λ v u w e. not_none (sym e);
    used = λ x h. absurd (omega (arith, h.1));
  }

  -- some transitions more, all of one step
  pub with_transition-is : (over : Option ℕ → Bool) (t : Table) (v w : Value) (u : Option ℕ) → over u ≡ true
      → IsTable f t → ((y : Option ℕ) → over y ≡ true → w ≡ f v y) → IsTable f (with_transition over t v w)
  with_transition-is over t v w u in_it is w_is = record {
    apart = apart-with (with_value t.states v) w (apart-with t.states v is.apart);
    steps = λ x y z. with_target-by over t.target v w x y (λ o. o ≡ Some z → z ≡ f x y)
        (λ (x_is, y_in) k. rw (x_is, ← of_some k) (w_is y y_in)) (λ _. is.steps x y z);
    ends = λ x y z. with_target-by over t.target v w x y (λ o. o ≡ Some z → Contains all x × Contains all z)
        (λ (x_is, _) k. rw (x_is, ← of_some k) (more v (has_new t.states v), has_new (with_value t.states v) w))
        (λ _ k. let (a, b) = is.ends x y z k in (more x (has_more t.states v x a), more z (has_more t.states v z b)));
    used = λ x h. by_cases (of_with (with_value t.states v) w x h)
        (λ h. by_cases (of_with t.states v x h)
        (λ h. let (a, b, c, at, side) = is.used x h in (a, b, c, stays a b c at, side))
        (λ at. (v, u, w, with_target-new over t.target v w u in_it, inl (sym at))))
        (λ at. (v, u, w, with_target-new over t.target v w u in_it, inr (sym at)));
  }
    where
      all : List Value
      all = with_value (with_value t.states v) w

      more : (x : Value) → Contains (with_value t.states v) x → Contains all x
      more = has_more (with_value t.states v) w

      stays : (x : Value) (y : Option ℕ) (z : Value) → t.target x y ≡ Some z
          → with_target over t.target v w x y ≡ Some z
      stays x y z k = with_target-by over t.target v w x y (λ o. o ≡ Some z)
          (λ (x_is, y_in). let s : z ≡ f x y = is.steps x y z k in
          let e : w ≡ f v y = w_is y y_in in cc) (λ _. k)

  -- a value that is not cached is the source of no cached transition
  pub not_source : (t : Table) (v : Value) (u : Option ℕ) → IsTable f t → list_any (same v) t.states ≡ false
      → t.target v u ≡ None
  not_source t v u is none = by_option (t.target v u) (λ e. e)
      (λ w e. not_both (list_any-from_Contains same_laws v t.states (is.ends v u w e).0) none)
