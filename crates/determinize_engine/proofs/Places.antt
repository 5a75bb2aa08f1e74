-- The places of values in lists, one value more, and equal values.
-- Main statements: get_push, get_more, apart-push, interned-push, same_is, not_both.
-- Used by: Texts and `intern` here, and nearly every file of lemmas of the three crates that name this one.
-- Idea: by induction on the list; `same` decides equality, so a value has one place.
use Rattle.determinize_core.proofs.Common.{[], ap, arith, Bool, by_test, cond, false, inl, inr, IsEquivalence, length}
use Rattle.determinize_core.proofs.Common.{length-append, List, list_any, None, on_equiv, Option, refl, same, slice_get}
use Rattle.determinize_core.proofs.Common.{IfSome, slice_get_within, Some, suc, sym, true, true≢false, unwrap_or, Value}
use Rattle.determinize_core.proofs.Common.{zero, ℕ, ◌++◌, ◌<◌, ◌≤◌, ◌∙◌}
use Rattle.determinize_core.proofs.Common.{◌∷◌, ◌≡◌, ◌⊎◌}
use Rattle.determinize_engine.specs.States.{EachApart, IsIndex}
use Rattle.determinize_engine.specs.Private.Interned.{AreInterned}
use Rattle.determinize_engine.specs.declared.state_table.TheConstants.{MAX_STATES}
use Rattle.std.proofs.lemmas.List.Folds.{list_any-append}
use Rattle.std.proofs.lemmas.Map.Keys.{any_passes_from_place}
use Rattle.std.specs.Cmp.Lexicographic.{nat_list_eq_equiv}
use Rattle.determinize_state.specs.Equality.{Decides-same, parts}

pub of_some : {A : Type 0} {x y : A} → Some x ≡ Some y → x ≡ y
of_some {A} {x} e = ap (λ (o : Option A). unwrap_or o x) e

pub not_none : {A X : Type 0} {x : A} → Some x ≡ None → X
not_none e = absurd (let no : ⊥ = (cc) in no)

pub not_both : {X : Type 0} {b : Bool} → b ≡ true → b ≡ false → X
not_both t f = absurd (true≢false (sym t ∙ f))

pub same_laws : IsEquivalence same
same_laws = on_equiv parts nat_list_eq_equiv

pub same_is : (v w : Value) → same v w ≡ true → v ≡ w
same_is v w = (Decides-same v w).0

module _ {K : Type 0} where
  pub get_push : (xs : List K) (x : K) (p : ℕ) (q : K) → slice_get (xs ++ x ∷ []) p ≡ Some q
      → (slice_get xs p ≡ Some q) ⊎ ((p ≡ length xs) × (q ≡ x))
  get_push [] x p q e = grind arith
  get_push (y ∷ ys) x zero q e = inl e
  get_push (y ∷ ys) x (suc p) q e = grind (arith, get_push ys x p q e)

  -- the last element
  pub get_last : (xs : List K) (x : K) → slice_get (xs ++ x ∷ []) (length xs) ≡ Some x
  get_last [] x = refl
  get_last (y ∷ ys) x = get_last ys x

  pub get_more : (xs ys : List K) (p : ℕ) (q : K) → slice_get xs p ≡ Some q → slice_get (xs ++ ys) p ≡ Some q
  get_more [] ys p q e = not_none (sym e)
  get_more (x ∷ xs) ys zero q e = e
  get_more (x ∷ xs) ys (suc p) q e = get_more xs ys p q e

module _ (values : List Value) where
  pub there : (v : Value) (p : ℕ) → slice_get values p ≡ Some v → list_any (same v) values ≡ true
  there v p at = any_passes_from_place (same v) values p v at (same_laws.refl v)

  -- with one more, no two of them are equal
  pub apart-push : (w : Value) → EachApart values → list_any (same w) values ≡ false → EachApart (values ++ w ∷ [])
  apart-push w apart new = grind (arith, get_push {K = Value}, there)

pub same-or : (v w : Value) → (same v w ≡ false) ⊎ (v ≡ w)
same-or v w = by_test (same v w) (λ e. inr (same_is v w e)) inl

-- an index in a table is below the greatest number of states
few_at : (values : List Value) (v : Value) (index : Option ℕ) → length values ≤ MAX_STATES → IsIndex values v index
    → IfSome index (λ p. p < MAX_STATES)
few_at values v None few at = tt
few_at values v (Some p) few at = omega (arith, slice_get_within values p v at, few)

pub index_few : {values : List Value} {at : Value → Option ℕ} → AreInterned values at → (v : Value)
    → IfSome (at v) (λ p. p < MAX_STATES)
index_few placed v = few_at _ v _ placed.few (placed.mapped v)

-- one more state in a table
pub interned-push : {values : List Value} {at at' : Value → Option ℕ} {n : ℕ} (v : Value) → AreInterned values at
    → list_any (same v) values ≡ false → n ≡ length values → n < MAX_STATES
    → ((q : Value) → at' q ≡ cond (same v q) (Some n) (at q)) → AreInterned (values ++ v ∷ []) at'
interned-push {values} v placed none len few new = record {
  mapped = λ q. let m = placed.mapped q in grind (
    arith,
    new q,
    same-or v q,
    get_last values v,
    get_more values (v ∷ []),
    list_any-append (same q) values (v ∷ []),
    same_laws.symm q v,
  );
  apart = apart-push values v placed.apart none;
  few = rw length-append (omega (arith, len, few));
}
