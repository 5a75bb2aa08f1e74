-- At most one list is in the order of least paths.
-- Main statements: one_end, one_least, IsEarlier, one_order.
-- Used by: LeastPaths, FiniteReach, RunLists, and the law that results are determined.
-- Idea: the least path to a node is unique, and the order of these is strict.
use Rattle.ordered_reach.proofs.Common.{[], Before, Bool, Decides, IsInOrderOfReach, IsLeastPath, IsPath, List, sym, ℕ, ◌∙◌, ◌∷◌, ◌≡◌, some_injective}
use Rattle.ordered_reach.proofs.lists.Elements.{Contains_In, In_Contains, same_by_order}
use Rattle.ordered_reach.proofs.lists.Lexicographic.{Before-asym, same_least}

-- a path's numbers determine its end
pub one_end : {N : Type 0} (es : N → List N) (held : List N) (r : N) (cs : List ℕ) (s u : N) → IsPath es held r cs s
    → IsPath es held r cs u → s ≡ u
one_end es held r [] s u a b = a.1 ∙ sym b.1
one_end {N} es held r (c ∷ cs) s u a b =
    let e : a.1.0 ≡ b.1.0 = some_injective a.1.0 b.1.0 (sym a.1.1 ∙ b.1.1) in
    one_end es (r ∷ held) b.1.0 cs s u (rw e at a.1.2) b.1.2

-- the least path to a node is unique
pub one_least : {N : Type 0} (edges : N → List N) (held roots : List N) (cs ds : List ℕ) (s : N)
    → IsLeastPath edges held roots cs s → IsLeastPath edges held roots ds s → cs ≡ ds
one_least edges held roots cs ds s a b = same_least cs ds (a.least ds b.path) (b.least cs a.path)

-- s and t have least paths, that to s before that to t
abbrev pub IsEarlier : {N : Type 0} → (N → List N) → List N → List N → N → N → Type 0
IsEarlier edges held roots s t = (cs : List ℕ) × (ds : List ℕ) × IsLeastPath edges held roots cs s
    × IsLeastPath edges held roots ds t × Before cs ds

pub asym_earlier : {N : Type 0} (edges : N → List N) (held roots : List N) (s t : N)
    → IsEarlier edges held roots s t → IsEarlier edges held roots t s → ⊥
asym_earlier edges held roots s t p q =
    let e : p.0 ≡ q.1 = one_least edges held roots p.0 q.1 s p.2 q.3 in
    let f : p.1 ≡ q.0 = one_least edges held roots p.1 q.0 t p.3 q.2 in
    Before-asym q.1 q.0 (rw (e, f) at p.4) q.4

module _ {N : Type 0} {eq : N → N → Bool} (dec : (a b : N) → Decides (eq a b) (a ≡ b)) where
  -- at most one list is in the order of least paths
  pub one_order : (edges : N → List N) (held roots xs ys : List N) → IsInOrderOfReach edges held roots xs
      → IsInOrderOfReach edges held roots ys → xs ≡ ys
  one_order edges held roots xs ys a b =
      same_by_order (IsEarlier edges held roots) (asym_earlier edges held roots) xs ys
      (λ x h. Contains_In dec ys x ((b.reached x).1 ((a.reached x).0 (In_Contains dec xs x h))))
      (λ x h. Contains_In dec xs x ((a.reached x).1 ((b.reached x).0 (In_Contains dec ys x h))))
      a.by_least b.by_least
