-- The laws of the depth-first search and of walks, and a small graph of each as an example.
use Rattle.std.specs.Prelude.{◌+◌, Contains, List, [], nat_eq, slice_index_or, ℕ, ◌∷◌, ◌≡◌, ◌↔◌, ◌⊎◌}
use Rattle.ordered_reach.specs.Paths.{Before, IsInOrderOfReach, IsListedInTurn, IsPath}
use Rattle.ordered_reach.specs.Reach.{LeadsBelow, member, ordered}
use Rattle.ordered_reach.specs.Walks.{IsGraphWalk, ListsLabels}

-- the computed list is in the order of least paths
abbrev pub EachReachIsInOrder : Type 0
EachReachIsInOrder = (edges : ℕ → List ℕ) (count : ℕ) → LeadsBelow edges count
    → (held roots : List ℕ)
    → IsInOrderOfReach edges held roots
    (ordered nat_eq edges (count + 1) (member nat_eq held) roots)

-- no other list is in the order of least paths
abbrev pub EachReachIsOne : Type 0
EachReachIsOne = (edges : ℕ → List ℕ) (count : ℕ) → LeadsBelow edges count
    → (held roots xs : List ℕ) → IsInOrderOfReach edges held roots xs
    → xs ≡ ordered nat_eq edges (count + 1) (member nat_eq held) roots

-- the computed list can be computed root by root
abbrev pub EachReachIsInTurn : Type 0
EachReachIsInTurn = (edges : ℕ → List ℕ) (count : ℕ) → LeadsBelow edges count
    → (held roots : List ℕ)
    → IsListedInTurn edges held roots (ordered nat_eq edges (count + 1) (member nat_eq held) roots)

-- four nodes, with the edges 0 to 1, 0 to 3, 1 to 2, 2 to 0 and 2 to 3
abbrev pub small_graph : ℕ → List ℕ
small_graph x = slice_index_or ((1 ∷ 3 ∷ []) ∷ (2 ∷ []) ∷ (0 ∷ 3 ∷ []) ∷ []) x []

-- the labels are those at the ends of walks
abbrev pub EachLabelIsListed : Type 0
EachLabelIsListed = (next labels : ℕ → List ℕ) (r : ℕ) (xs : List ℕ) → ListsLabels next labels r xs
    → (x : ℕ)
    → (Contains xs x) ↔ ((cs : List ℕ) × (s : ℕ) × IsGraphWalk next r cs s × Contains (labels s) x)

-- the first label is at the end of the first walk that has a label at its end
abbrev pub EachFirstIsPreferred : Type 0
EachFirstIsPreferred = (next labels : ℕ → List ℕ) (r x : ℕ) (xs : List ℕ)
    → ListsLabels next labels r (x ∷ xs)
    → (cs : List ℕ) × (s : ℕ) × IsGraphWalk next r cs s × Contains (labels s) x
    × ((ds : List ℕ) (t y : ℕ) → IsGraphWalk next r ds t → Contains (labels t) y
    → (cs ≡ ds) ⊎ Before cs ds)

-- where all walks end, the walks are the paths that meet no node twice
abbrev pub EachWalkIsPath : Type 0
EachWalkIsPath = (next labels : ℕ → List ℕ) (r : ℕ) (xs : List ℕ) → ListsLabels next labels r xs
    → (cs : List ℕ) (s : ℕ) → IsGraphWalk next r cs s ↔ IsPath next [] r cs s

-- four nodes without a way back, with the edges 0 to 2, 0 to 1, 1 to 3, 2 to 1 and 2 to 3
abbrev pub small_order : ℕ → List ℕ
small_order x = slice_index_or ((2 ∷ 1 ∷ []) ∷ (3 ∷ []) ∷ (1 ∷ 3 ∷ []) ∷ []) x []
