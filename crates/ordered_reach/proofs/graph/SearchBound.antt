-- A bound on the work of a depth-first search.
-- Main statements: weight, weight-fresh, tries_bound.
-- Used by: Fuel, FiniteGraphs, and the bound of a step.
-- Idea: a search with a stack pops each node and each edge at most once.
use Rattle.ordered_reach.proofs.Common.{[], ap, arith, Bool, cond, Decides, edge_count, ends, false, false≢true, flat_map, fresh, length, List, member, none_held, or_false_right, or_right, refl, search_tries, true, with_node, zero, ℕ, ◌+◌, ◌∷◌, ◌≡◌, ◌≤◌}
use Rattle.ordered_reach.proofs.lists.NewNodes.{eq-self}

-- the sum of a measure over the nodes of the list that are not visited
abbrev pub weight : {N : Type 0} → (N → ℕ) → (N → Bool) → List N → ℕ
weight f held [] = zero
weight f held (x ∷ xs) = cond (held x) (weight f held xs) (f x + weight f held xs)

-- the nodes that are not visited weigh at most as much as all
pub weight_held_le : {N : Type 0} (f : N → ℕ) (held : N → Bool) (xs : List N) → weight f held xs ≤ weight f none_held xs
weight_held_le f held [] = omega arith
weight_held_le f held (x ∷ xs) = grind (arith, weight_held_le f held xs)

-- where each node has weight one, the weight is the length
pub weight_ones : {A : Type 0} (xs : List A) → weight (λ x. 1) none_held xs ≡ length xs
weight_ones [] = refl
weight_ones (x ∷ xs) = grind (arith, weight_ones xs)

edge_count_is : {N : Type 0} (edges : N → List N) (xs : List N)
    → edge_count edges xs ≡ weight (λ x. length (edges x)) none_held xs
edge_count_is edges [] = refl
edge_count_is edges (x ∷ xs) = ap (λ k. length (edges x) + k) (edge_count_is edges xs)

module _ {N : Type 0} {eq : N → N → Bool} (dec : (a b : N) → Decides (eq a b) (a ≡ b)) (f : N → ℕ) where
  weight_less : (held : N → Bool) (r : N) (nodes : List N) → weight f (with_node eq held r) nodes ≤ weight f held nodes
  weight_less held r [] = omega arith
  weight_less held r (x ∷ nodes) = grind (arith, weight_less held r nodes)

  pub weight_one : (held : N → Bool) (r : N) (nodes : List N) → held r ≡ false → member eq nodes r ≡ true
      → f r + weight f (with_node eq held r) nodes ≤ weight f held nodes
  weight_one held r [] e m = absurd (false≢true m)
  weight_one held r (x ∷ nodes) e m =
      grind (arith, dec x r, dec r x, weight_less held r nodes, weight_one held r nodes e)

  -- distinct nodes have at most the weight of all
  pub weight-fresh : (nodes : List N) (held : N → Bool) (xs : List N)
      → ((x : N) → member eq xs x ≡ true → held x ≡ false → member eq nodes x ≡ true)
      → weight f none_held (fresh eq held xs) ≤ weight f held nodes
  weight-fresh nodes held [] h = omega arith
  weight-fresh nodes held (x ∷ xs) h =
      let old = weight-fresh nodes held xs (λ y m k. h y (or_right _ _ m) k) in
      let new = weight-fresh nodes (with_node eq held x) xs
      (λ y m k. h y (or_right _ _ m) (or_false_right (eq x y) (held y) k)) in
      grind (arith, eq-self dec x, h x, weight_one held x nodes, old, new)

module _ {N : Type 0} {eq : N → N → Bool} (dec : (a b : N) → Decides (eq a b) (a ≡ b)) (edges : N → List N)
    (nodes : List N) where
  -- the tries of a search are at most its pending nodes plus all edges
  pub tries_bound : (n : ℕ) (met pending : List N)
      → ((x : N) → member eq (flat_map (ends eq edges n (member eq met)) pending) x ≡ true → member eq nodes x ≡ true)
      → search_tries eq edges n met pending ≤ length pending + edge_count edges nodes
  tries_bound n met pending h =
      let degree : N → ℕ = λ x. length (edges x) in
      let all : List N = flat_map (ends eq edges n (member eq met)) pending in
      let a = weight-fresh dec degree nodes (member eq met) all (λ x m k. h x m) in
      let b = edge_count_is edges (fresh eq (member eq met) all) in
      omega (arith, a, b, weight_held_le degree (member eq met) nodes, edge_count_is edges nodes)
