-- Graphs on numbers below a bound.
-- Main statements: same_decides, IsEnough-below, length-fresh_below.
-- Used by: FiniteReach, Automata, and the NFA's closures.
-- Idea: the numbers below the bound are the nodes, so fuel one above it is enough.
use Rattle.ordered_reach.proofs.Common.{ap, Bool, arith, Decides, fresh, LeadsBelow, length, List, member, nat_eq, none_held, refl, suc, true, with_node, zero, ℕ, ◌<◌, ◌≡◌, ◌≤◌, nodes_below}
use Rattle.std.proofs.lemmas.Bool.Decides.{Decides-eqb}
use Rattle.ordered_reach.proofs.graph.SearchBound.{weight-fresh, weight_held_le, weight_ones}
use Rattle.ordered_reach.proofs.graph.ClosedSets.{IsEnough}
use Rattle.ordered_reach.proofs.graph.Fuel.{IsEnough-from_count}
use Rattle.ordered_reach.proofs.lists.NewNodes.{member-fresh}

pub same_decides : (a b : ℕ) → Decides (nat_eq a b) (a ≡ b)
same_decides = Decides-eqb

pub below_member : (n x : ℕ) → x < n → member nat_eq (nodes_below n) x ≡ true
below_member zero x l = absurd (omega arith)
below_member (suc n) x l = grind (arith, same_decides n x, below_member n x)

pub length_below : (n : ℕ) → length (nodes_below n) ≡ n
length_below zero = refl
length_below (suc n) = ap suc (length_below n)

-- fuel one above the bound is enough from any node
pub IsEnough-below : (edges : ℕ → List ℕ) (count : ℕ) → LeadsBelow edges count → (x : ℕ)
    → IsEnough nat_eq edges (suc count) none_held x
IsEnough-below edges count h x = λ e t k.
    let held : ℕ → Bool = with_node nat_eq none_held x in
    let less = weight_held_le (λ x. 1) held (nodes_below count) in
    IsEnough-from_count same_decides edges (nodes_below count) (λ a b p q. below_member count b (h a b q)) count held t
    (omega (arith, less, weight_ones (nodes_below count), length_below count)) (below_member count t (h x t k))

-- distinct numbers below n are at most n
pub length-fresh_below : (n : ℕ) (xs : List ℕ) → ((x : ℕ) → member nat_eq xs x ≡ true → x < n)
    → length (fresh nat_eq none_held xs) ≤ n
length-fresh_below n xs h =
    let a = weight-fresh same_decides (λ x. 1) (nodes_below n) none_held xs (λ x m e. below_member n x (h x m)) in
    omega (arith, a, weight_ones (fresh nat_eq none_held xs), weight_ones (nodes_below n), length_below n)

pub fresh_below : (n : ℕ) (xs : List ℕ) → ((x : ℕ) → member nat_eq xs x ≡ true → x < n) → (x : ℕ)
    → member nat_eq (fresh nat_eq none_held xs) x ≡ true → x < n
fresh_below n xs h x m = h x (grind (arith, member-fresh same_decides none_held xs x))
