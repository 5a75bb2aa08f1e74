-- Steps over bytes of one class are equal.
-- Main statements: shared_steps, shares-self.
-- Used by: Rule and Plenty.
-- Idea: a value that needs only assertions of the NFA does not distinguish bytes that the NFA does not distinguish.
use Rattle.determinize_lazy.proofs.Common.{ap, AreClassesOf, arith, by_test, Classes, classes_from, Decides-unit}
use Rattle.determinize_lazy.proofs.Common.{eqb-true, has, IfSome, in_one_class, IsAccepted, MatchKind, nat_tests}
use Rattle.determinize_lazy.proofs.Common.{needs_tested, Nfa, None, Option, refl, same_unit, shares, Some, step, sym, true, Value, ℕ, ◌∙◌, ◌≡◌}
use Rattle.determinize_below.proofs.looks.LookSets.{has-union}
use Rattle.determinize_below.proofs.nfas.TestedLooks.{Decides-look_set_any}
use Rattle.determinize_below.specs.Look.{union}
use Rattle.determinize_core.proofs.step.AlikeBytes.{each_class_steps}
use Rattle.determinize_core.specs.Alike.{NeedsTested}

-- a unit shares a step with itself
pub shares-self : (p : Option Classes) (u : Option ℕ) → shares p u u ≡ true
shares-self None u = (Decides-unit u u).1 refl
shares-self (Some p) u = let e : same_unit u u ≡ true = (Decides-unit u u).1 refl in rw e refl

module _ {nfa : Nfa} (accepted : IsAccepted nfa) where
  -- the test of look-need
  tested : (v : Value) → needs_tested nfa v ≡ true → NeedsTested nfa v
  tested v e l h =
      let whole : union v.look_need nfa.look_set_any ≡ nfa.look_set_any = eqb-true _ _ e in
      let any : has nfa.look_set_any l ≡ true =
      ap (λ s. has s l) (sym whole) ∙ has-union v.look_need nfa.look_set_any l ∙ rw h refl in
      (Decides-look_set_any nfa accepted l).0 any

  -- a byte of the class of a unit
  in_class : {p : Classes} → AreClassesOf nfa p → (kind : MatchKind) (v : Value) → NeedsTested nfa v
      → (u y : Option ℕ) → in_one_class p u y ≡ true → step nfa kind v y ≡ step nfa kind v u
  in_class {p} are kind v needs None y h = absurd (grind arith)
  in_class {p} are kind v needs (Some b) None h = absurd (grind arith)
  in_class {p} are kind v needs (Some b) (Some c) h =
      sym (each_class_steps nfa accepted kind v needs b c
      (are.alike b c (grind (arith, nat_tests)) (grind (arith, nat_tests)) (grind (arith, nat_tests))))

  shared : (p : Option Classes) → IfSome p (λ p. AreClassesOf nfa p) → (kind : MatchKind) (v : Value)
      → NeedsTested nfa v → (u y : Option ℕ) → shares p u y ≡ true → step nfa kind v y ≡ step nfa kind v u
  shared None are kind v needs u y h = ap (step nfa kind v) ((Decides-unit y u).0 h)
  shared (Some p) are kind v needs u y h = by_test (same_unit y u)
      (λ e. ap (step nfa kind v) ((Decides-unit y u).0 e)) (λ e. in_class are kind v needs u y (rw e at h))

  pub shared_steps : (classes : Option Classes) → IfSome classes (λ p. AreClassesOf nfa p) → (kind : MatchKind)
      (v : Value) (u y : Option ℕ) → shares (classes_from nfa v classes) u y ≡ true
      → step nfa kind v y ≡ step nfa kind v u
  shared_steps None are kind v u y h = ap (step nfa kind v) ((Decides-unit y u).0 h)
  shared_steps (Some p) are kind v u y h = by_test (needs_tested nfa v)
      (λ e. shared (Some p) are kind v (tested v e) u y (rw e at h))
      (λ e. ap (step nfa kind v) ((Decides-unit y u).0 (rw e at h)))
