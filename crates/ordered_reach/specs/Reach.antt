-- Depth-first search in a graph: the nodes at the ends of loop-free paths, in the order of the
-- paths, as a function that computes. `n` bounds the length of the paths, and `held` is the set of
-- the nodes visited before.
use Rattle.std.specs.List.{flat_map}
use Rattle.std.specs.Prelude.{◌+◌, ◌<◌, Bool, List, [], cond, false, length, nat_eq, suc, true, zero, ◌||◌, ℕ, ◌∷◌, ◌≡◌}

-- whether x is in the list
abbrev pub member : {N : Type 0} → (N → N → Bool) → List N → N → Bool
member eq [] x = false
member eq (y ∷ ys) x = eq y x || member eq ys x

-- the set with one more node
abbrev pub with_node : {N : Type 0} → (N → N → Bool) → (N → Bool) → N → N → Bool
with_node eq held r x = eq r x || held x

-- the union of two sets
abbrev pub joined : {N : Type 0} → (N → Bool) → (N → Bool) → N → Bool
joined v held x = v x || held x

-- the empty set
abbrev pub none_held : {N : Type 0} → N → Bool
none_held x = false

-- the last nodes of the loop-free paths from r that avoid the visited nodes, in the order of the
-- paths
abbrev pub ends : {N : Type 0} → (N → N → Bool) → (N → List N) → ℕ → (N → Bool) → N → List N
ends eq edges zero held r = []
ends eq edges (suc n) held r =
    cond (held r) [] (r ∷ flat_map (ends eq edges n (with_node eq held r)) (edges r))

-- the nodes of the list that are not in the set, each once, by first occurrence
abbrev pub fresh : {N : Type 0} → (N → N → Bool) → (N → Bool) → List N → List N
fresh eq seen [] = []
fresh eq seen (x ∷ xs) = cond (seen x) (fresh eq seen xs) (x ∷ fresh eq (with_node eq seen x) xs)

-- the nodes that loop-free paths from the roots end in, avoiding the visited nodes, each once: by
-- the first such root, then by the least path
abbrev pub ordered : {N : Type 0} → (N → N → Bool) → (N → List N) → ℕ → (N → Bool) → List N → List N
ordered eq edges n held roots = fresh eq held (flat_map (ends eq edges n held) roots)

-- the number of edges that leave the nodes of the list
abbrev pub edge_count : {N : Type 0} → (N → List N) → List N → ℕ
edge_count edges [] = zero
edge_count edges (x ∷ xs) = length (edges x) + edge_count edges xs

-- the numbers below n
abbrev pub nodes_below : ℕ → List ℕ
nodes_below zero = []
nodes_below (suc n) = n ∷ nodes_below n

-- the target of each edge is below the count
abbrev pub LeadsBelow : (ℕ → List ℕ) → ℕ → Type 0
LeadsBelow edges count = (x y : ℕ) → member nat_eq (edges x) y ≡ true → y < count
