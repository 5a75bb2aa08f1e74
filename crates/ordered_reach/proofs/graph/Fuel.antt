-- Fuel for a search: the number of nodes that are not visited is enough.
-- Main statements: IsEnough-from_count, ordered-enough.
-- Used by: FiniteGraphs, RunFuel, and the fuel of a step.
-- Idea: each step of a loop-free path visits a node more.
use Rattle.ordered_reach.proofs.Common.{ap, arith, Bool, by_test, Decides, fresh, List, member, ordered, suc, true, with_node, zero, ℕ, ◌+◌, ◌≡◌, ◌≤◌}
use Rattle.ordered_reach.proofs.graph.ClosedSets.{IsEnough, IsEnough-more_fuel, ends-enough}
use Rattle.ordered_reach.proofs.graph.SearchBound.{weight, weight_one}
use Rattle.ordered_reach.proofs.lists.NewNodes.{flat_map-agree}

module _ {N : Type 0} {eq : N → N → Bool} (dec : (a b : N) → Decides (eq a b) (a ≡ b)) where
  -- the number of nodes that are not visited is enough fuel
  pub IsEnough-from_count : (edges : N → List N) (nodes : List N)
      → ((x y : N) → member eq nodes x ≡ true → member eq (edges x) y ≡ true → member eq nodes y ≡ true)
      → (n : ℕ) (held : N → Bool) (r : N) → weight (λ x. 1) held nodes ≤ n → member eq nodes r ≡ true
      → IsEnough eq edges n held r
  IsEnough-from_count edges nodes c zero held r l m =
      by_test (held r) (λ e. e) (λ e. absurd (omega (arith, weight_one dec (λ x. 1) held r nodes e m)))
  IsEnough-from_count edges nodes c (suc n) held r l m = λ e t k. IsEnough-from_count edges nodes c n
      (with_node eq held r) t (omega (arith, weight_one dec (λ x. 1) held r nodes e m)) (c r t m k)

  -- any two amounts of fuel that are enough give the same list
  pub ordered-enough : (edges : N → List N) (n m : ℕ) (held : N → Bool) (roots : List N)
      → ((x : N) → IsEnough eq edges n held x) → ((x : N) → IsEnough eq edges m held x)
      → ordered eq edges n held roots ≡ ordered eq edges m held roots
  ordered-enough edges n m held roots a b =
      ap (λ l. fresh eq held l) (flat_map-agree dec _ _ roots (λ x z. ends-enough dec edges n m held x (a x) (b x)))

  pub IsEnough-plus : (edges : N → List N) (k n : ℕ) (held : N → Bool) (r : N) → IsEnough eq edges n held r
      → IsEnough eq edges (k + n) held r
  IsEnough-plus edges zero n held r a = let z : 0 + n ≡ n = omega arith in rw z a
  IsEnough-plus edges (suc k) n held r a =
      let z : suc k + n ≡ suc (k + n) = omega arith in
      rw z (IsEnough-more_fuel dec edges (k + n) held r (IsEnough-plus edges k n held r a))
