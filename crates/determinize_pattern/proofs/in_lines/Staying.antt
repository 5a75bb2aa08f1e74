-- Whether the matches of a pattern stay in a line, by its parts.
-- Main statements: stays_sequence, stays_choice, stays_literal, stays_repeated.
-- Used by: the proofs of `stay_in_lines`.
-- Idea: induction on the parts, on the bytes or on the number of copies.
use Rattle.std.specs.List.{list_any}
use Rattle.std.specs.Prelude.{nat_eq, not}
use Rattle.std.proofs.Common.{◌≡◌, ◌-◌, ◌∙◌, ◌∷◌, ◌&&◌, ℕ, Bool, List, None, Option, Some, [], ap, arith, false, refl, suc, true, zero}
use Rattle.std.proofs.Math.Bool.{and-true, and_self, and_self_left}
use Rattle.std.proofs.lemmas.Bool.Decides.{nat_tests}
use Rattle.ordered_reach.proofs.Cases.{by_test}
use Rattle.determinize_below.specs.Semantics.{within}
use Rattle.determinize_pattern.specs.Lines.{all_stay, stays_in_line}
use Rattle.determinize_pattern.specs.Meaning.{Plus, Re, Then}
use Rattle.determinize_pattern.specs.Patterns.{choice, copies, literal, optional, repeated, sequence, up_to}

module _ (t : ℕ) where
  pub stays_sequence : (res : List Re) → stays_in_line t (sequence res) ≡ all_stay t res
  stays_sequence [] = refl
  stays_sequence (re ∷ res) = ap (λ b. stays_in_line t re && b) (stays_sequence res)

  pub stays_choice : (res : List Re) → stays_in_line t (choice res) ≡ all_stay t res
  stays_choice [] = refl
  stays_choice (re ∷ res) = ap (λ b. stays_in_line t re && b) (stays_choice res)

  within_one : (b : ℕ) → within b b t ≡ nat_eq b t
  within_one b = grind (arith, nat_tests)

  pub stays_literal : (bytes : List ℕ)
      → stays_in_line t (literal bytes) ≡ not (list_any (λ b. nat_eq b t) bytes)
  stays_literal [] = refl
  stays_literal (b ∷ bytes) = rw (within_one b, stays_literal bytes)
      (by_test (nat_eq b t) (λ e. rw e refl) (λ e. rw e refl))

  stays_optional : (greedy : Bool) (a : Re) → stays_in_line t (optional greedy a) ≡ stays_in_line t a
  stays_optional true a = and-true (stays_in_line t a)
  stays_optional false a = refl

  module _ (greedy : Bool) (a : Re) where
    stays_up_to : (n : ℕ) → (stays_in_line t a && stays_in_line t (up_to greedy n a)) ≡ stays_in_line t a
    stays_up_to zero = and-true (stays_in_line t a)
    stays_up_to (suc n) = rw (
      stays_optional greedy (Then a (up_to greedy n a)),
      and_self_left (stays_in_line t a) (stays_in_line t (up_to greedy n a)),
    ) (stays_up_to n)

    stays_copies : (n : ℕ) (b : Re)
        → stays_in_line t (copies (suc n) a b) ≡ (stays_in_line t a && stays_in_line t b)
    stays_copies zero b = refl
    stays_copies (suc n) b = rw (stays_copies n b) (and_self_left (stays_in_line t a) (stays_in_line t b))

    pub stays_repeated : (min : ℕ) (max : Option ℕ) → ((min ≡ 0) × (max ≡ Some 0) → ⊥)
        → stays_in_line t (repeated min max greedy a) ≡ stays_in_line t a
    stays_repeated zero None some = stays_optional greedy (Plus greedy a)
    stays_repeated zero (Some zero) some = absurd (some (refl, refl))
    stays_repeated zero (Some (suc m)) some =
        let all : suc m - 0 ≡ suc m = omega arith in
        rw all (stays_optional greedy (Then a (up_to greedy m a)) ∙ stays_up_to m)
    stays_repeated (suc zero) None some = refl
    stays_repeated (suc (suc n)) None some = stays_copies n (Plus greedy a) ∙ and_self (stays_in_line t a)
    stays_repeated (suc n) (Some m) some = stays_copies n (up_to greedy (m - suc n) a) ∙ stays_up_to (m - suc n)
