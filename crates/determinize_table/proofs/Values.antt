-- The cached values: their indices, the values with one more, and the targets with one more.
-- Main statements: index_is, length_with, any_with, get_with, with_target-by.
-- Used by: TableRows, Changes, Transitions, and Plenty of `determinize_lazy`.
-- Idea: `same` decides equality, so each test in a definition is one for equal values.
use Rattle.determinize_table.proofs.Common.{[], ap, arith, Bool, by_test, cond, Contains, Decides, EachApart, false}
use Rattle.determinize_table.proofs.Common.{index_in, inl, length, length_push, List, list_any, None, Option}
use Rattle.determinize_table.proofs.Common.{position_from, refl, same, same_unit, slice_get, Some, suc, sym, true, Value}
use Rattle.determinize_table.proofs.Common.{with_target, with_value, ℕ, ◌&&◌, ◌+◌, ◌||◌, ◌∷◌, ◌≡◌, ◌⊎◌}
use Rattle.std.proofs.lemmas.Bool.Decides.{Decides-and, nat_tests}
use Rattle.std.proofs.lemmas.List.Elements.{Contains-append_left, Contains-push, Contains-push_cases}
use Rattle.std.proofs.lemmas.List.Folds.{list_any-append}
use Rattle.std.proofs.lemmas.Map.Views.{Contains-from_any}
use Rattle.determinize_state.specs.Equality.{Decides-same}
use Rattle.determinize_engine.proofs.Places.{apart-push, get_more, not_both, not_none, same-or, same_is, same_laws}

pub Decides-unit : (u w : Option ℕ) → Decides (same_unit u w) (u ≡ w)
Decides-unit u w = grind (arith, nat_tests)

-- the target of a transition in a table with some more: of a new one, or of another
pub with_target-by : (over : Option ℕ → Bool) (target : Value → Option ℕ → Option Value) (v w x : Value) (y : Option ℕ)
    (P : Option Value → Type 0) → ((x ≡ v) × (over y ≡ true) → P (Some w))
    → (((x ≡ v) × (over y ≡ true) → ⊥) → P (target x y)) → P (with_target over target v w x y)
with_target-by over target v w x y P new old =
    let both = Decides-and (same x v) (over y) (Decides-same x v) (λ e. e, λ e. e) in
    by_test (same x v && over y) (λ e. rw e (new (both.0 e))) (λ e. rw e (old (λ is. not_both (both.1 is) e)))

pub none_passes : {K : Type 0} (t : K → Bool) (xs : List K) (i : ℕ) → position_from t i xs ≡ None
    → list_any t xs ≡ false
none_passes t [] i e = refl
none_passes t (x ∷ xs) i e = grind (arith, none_passes t xs (i + 1))

index_from : (v : Value) (xs : List Value) (i p : ℕ) → position_from (same v) i xs ≡ Some p
    → (k : ℕ) × (p ≡ i + k) × (slice_get xs k ≡ Some v)
index_from v [] i p e = not_none (sym e)
index_from v (x ∷ xs) i p e = by_test (same v x) (λ here. (0, grind arith, ap Some (sym (same_is v x here))))
    (λ no. let (k, at, is) = index_from v xs (i + 1) p (rw no at e) in (suc k, omega (arith, at), is))

pub index_is : (values : List Value) (v : Value) (p : ℕ) → index_in values v ≡ Some p → slice_get values p ≡ Some v
index_is values v p here =
    let (k, at, is) = index_from v values 0 p here in
    let e : p ≡ k = omega (arith, at) in
    rw e is

module _ (values : List Value) (w : Value) where
  pub get_with : (v : Value) (p : ℕ) → slice_get values p ≡ Some v → slice_get (with_value values w) p ≡ Some v
  get_with v p at = grind (arith, get_more {K = Value})

  pub has_new : Contains (with_value values w) w
  has_new = by_test (list_any (same w) values) (λ e. rw e (Contains-from_any same_is w values e))
      (λ e. rw e (Contains-push values w))

  pub has_more : (v : Value) → Contains values v → Contains (with_value values w) v
  has_more v h = by_test (list_any (same w) values) (λ e. rw e h) (λ e. rw e (Contains-append_left values (w ∷ []) v h))

  pub of_with : (v : Value) → Contains (with_value values w) v → Contains values v ⊎ (w ≡ v)
  of_with v h = by_test (list_any (same w) values) (λ e. inl (rw e at h))
      (λ e. Contains-push_cases values w v (rw e at h))

  -- how many there are
  pub length_with : length (with_value values w) ≡ length values + cond (list_any (same w) values) 0 1
  length_with = grind (arith, length_push {X = Value})

  -- whether a value is among them
  pub any_with : (v : Value) → list_any (same v) (with_value values w) ≡ (list_any (same v) values || same w v)
  any_with v =
      grind (arith, list_any-append {X = Value}, same-or w v, same_laws.symm v w)

  pub apart-with : EachApart values → EachApart (with_value values w)
  apart-with h = grind (arith, apart-push)
