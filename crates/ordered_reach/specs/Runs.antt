-- Graphs of positions and nodes, in which a path is a run over a text: their edges, parts of a list
-- of nodes, and the nodes that runs reach at a position.
use Rattle.std.specs.List.{filter}
use Rattle.std.specs.Prelude.{◌++◌, ◌<◌, ◌==◌, ◌≡◌, ◌↔◌, Bool, Contains, List, Some, [], cond, false, map, not, slice_get, suc, ℕ, ◌∷◌}
use Rattle.ordered_reach.specs.Paths.{Before, IsLeast, IsPath}

-- the pair of a position and a state
abbrev pub placed : {N : Type 0} → ℕ → N → ℕ × N
placed i s = (i, s)

-- the steps over a byte, then the epsilon steps, which stay at the position
abbrev pub run_edges : {N : Type 0} → (ℕ → N → List N) → (ℕ → N → List N) → ℕ × N → List (ℕ × N)
run_edges eps bytes p = map (placed (suc p.0)) (bytes p.0 p.1) ++ map (placed p.0) (eps p.0 p.1)

-- the elements before the first that passes the test
abbrev pub before : {A : Type 0} → (A → Bool) → List A → List A
before p [] = []
before p (x ∷ xs) = cond (p x) [] (x ∷ before p xs)

-- the list without the nodes of `cap`
abbrev pub without : {N : Type 0} → (N → Bool) → List N → List N
without cap xs = filter (λ x. not (cap x)) xs

-- the epsilon transitions: those of `known` at position k, those of `eps` at all others
abbrev pub known_at : {N : Type 0} → ℕ → (ℕ → N → List N) → (ℕ → N → List N) → ℕ → N → List N
known_at k known eps i s = cond (i == k) (known i s) (eps i s)

-- the first list is a prefix of the second
abbrev pub IsBeginning : {N : Type 0} → List N → List N → Type 0
IsBeginning {N} xs ys = (zs : List N) × (ys ≡ xs ++ zs)

-- cs is the least run from the start to s
pub record IsLeastRun {N : Type 0} (edges : N → List N) (start : N) (cs : List ℕ)
    (s : N) : Type 0 where
  pub run : IsPath edges [] start cs s
  pub least : IsLeast (λ ds. IsPath edges [] start ds s) cs

-- the list has each state, except those of `cap`, in which some run from the start ends at the
-- position, once, sorted by the least such run
pub record ListsReached {N : Type 0} (choices : ℕ × N → List (ℕ × N)) (cap : N → Bool) (start : N)
    (i : ℕ) (xs : List N) : Type 0 where
  pub reached : (s : N) → (Contains xs s)
      ↔ ((cap s ≡ false) × ((cs : List ℕ) × IsPath choices [] (0, start) cs (i, s)))
  pub once : (a b : ℕ) (s : N) → slice_get xs a ≡ Some s → slice_get xs b ≡ Some s → a ≡ b
  pub by_least : (a b : ℕ) (s t : N) → a < b → slice_get xs a ≡ Some s → slice_get xs b ≡ Some t
      → (cs : List ℕ) × (ds : List ℕ) × IsLeastRun choices (0, start) cs (i, s)
      × IsLeastRun choices (0, start) ds (i, t) × Before cs ds
