-- Walks in a graph, which may meet a node again, and the labels at their ends in the order of the
-- walks.
use Rattle.std.specs.List.{flat_map}
use Rattle.std.specs.Prelude.{◌++◌, All, List, Some, [], slice_get, suc, zero, ℕ, ◌∷◌, ◌≡◌}

-- the edge numbers lead from r to s
abbrev pub IsGraphWalk : {N : Type 0} → (N → List N) → N → List ℕ → N → Type 0
IsGraphWalk next r [] s = s ≡ r
IsGraphWalk {N} next r (c ∷ cs) s =
    (t : N) × (slice_get (next r) c ≡ Some t) × IsGraphWalk next t cs s

-- every walk from r has less than n edges
abbrev pub Settles : {N : Type 0} → (N → List N) → ℕ → N → Type 0
Settles next zero r = ⊥
Settles next (suc n) r = All (Settles next n) (next r)

-- the labels at the ends of walks of less than n edges, in the order of the walks
abbrev pub labels_within : {N A : Type 0} → (N → List N) → (N → List A) → ℕ → N → List A
labels_within next labels zero r = []
labels_within next labels (suc n) r =
    labels r ++ flat_map (labels_within next labels n) (next r)

-- the walks from r end, and these are the labels at their ends
abbrev pub ListsLabels : {N A : Type 0} → (N → List N) → (N → List A) → N → List A → Type 0
ListsLabels next labels r xs =
    (n : ℕ) × Settles next n r × (labels_within next labels n r ≡ xs)
