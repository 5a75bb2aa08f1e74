-- Paths in a graph as lists of edge numbers, and the order of least paths, by relations and not by
-- computation.
--
-- An edge is named by its number in the edge list of its node. So a path is a list of numbers, and
-- paths are compared lexicographically: this is the order in which a depth-first search finds them.
use Rattle.std.specs.Cmp.Lexicographic.{slice_cmp}
use Rattle.std.specs.Ordering.{nat_cmp}
use Rattle.std.specs.declared.cmp.Ordering.TheVariants.{Less}
use Rattle.std.specs.Prelude.{◌++◌, ◌<◌, Contains, List, Some, [], slice_get, ℕ, ◌↔◌, ◌∷◌, ◌≡◌, ◌⊎◌}

-- the edge numbers are a path from r to s that meets no visited node (those of `xs`) and no node
-- twice
abbrev pub IsPath : {N : Type 0} → (N → List N) → List N → N → List ℕ → N → Type 0
IsPath next xs r [] s = (¬ (Contains xs r)) × (s ≡ r)
IsPath {N} next xs r (c ∷ cs) s =
    (¬ (Contains xs r)) × ((t : N) × (slice_get (next r) c ≡ Some t) × IsPath next (r ∷ xs) t cs s)

-- the first number selects a root, the others are a path from it
abbrev pub IsPathFrom : {N : Type 0} → (N → List N) → List N → List N → List ℕ → N → Type 0
IsPathFrom edges held roots [] s = ⊥
IsPathFrom {N} edges held roots (i ∷ cs) s =
    (r : N) × (slice_get roots i ≡ Some r) × IsPath edges held r cs s

-- the lexicographic order, in which a proper prefix comes before its continuation
abbrev pub Before : List ℕ → List ℕ → Type 0
Before cs ds = slice_cmp nat_cmp cs ds ≡ Less

-- no list with the property is before cs
abbrev pub IsLeast : (List ℕ → Type 0) → List ℕ → Type 0
IsLeast P cs = (ds : List ℕ) → P ds → (cs ≡ ds) ⊎ Before cs ds

-- cs is the least path to s
pub record IsLeastPath {N : Type 0} (edges : N → List N) (held roots : List N) (cs : List ℕ)
    (s : N) : Type 0 where
  pub path : IsPathFrom edges held roots cs s
  pub least : IsLeast (λ ds. IsPathFrom edges held roots ds s) cs

-- the list is in the order of least paths: it has each node that some path from the roots ends in,
-- once, sorted by the least such path
pub record IsInOrderOfReach {N : Type 0} (edges : N → List N)
    (held roots xs : List N) : Type 0 where
  pub reached : (s : N) → (Contains xs s) ↔ ((cs : List ℕ) × IsPathFrom edges held roots cs s)
  pub once : (i j : ℕ) (s : N) → slice_get xs i ≡ Some s → slice_get xs j ≡ Some s → i ≡ j
  pub by_least : (i j : ℕ) (s t : N) → i < j → slice_get xs i ≡ Some s → slice_get xs j ≡ Some t
      → (cs : List ℕ) × (ds : List ℕ) × IsLeastPath edges held roots cs s
      × IsLeastPath edges held roots ds t × Before cs ds

-- the list is computed root by root: nodes reached from one root count as visited for the next
abbrev pub IsListedInTurn : {N : Type 0} → (N → List N) → List N → List N → List N → Type 0
IsListedInTurn edges held [] xs = xs ≡ []
IsListedInTurn {N} edges held (r ∷ rs) xs =
    (ys : List N) × (zs : List N) × (xs ≡ ys ++ zs) × IsInOrderOfReach edges held (r ∷ []) ys
    × IsListedInTurn edges (held ++ ys) rs zs
