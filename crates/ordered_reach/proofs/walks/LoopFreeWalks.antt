-- Where all walks from a node end, they are the paths that meet no node twice.
-- Main statements: walk_is_path, one_end.
-- Used by: walks_law, and the crates above.
-- Idea: a walk that came back could be repeated, and would be longer than the bound.
use Rattle.ordered_reach.proofs.Common.{[], arith, IsPath, length, length-append, List, refl, some_injective, suc, sym, zero, ℕ, ◌++◌, ◌+◌, ◌<◌, ◌∙◌, ◌∷◌, ◌≡◌, ◌≤◌}
use Rattle.std.specs.Prelude.{◌↔◌}
use Rattle.ordered_reach.proofs.graph.LoopFree.{walk_append, walk_of_path}
use Rattle.ordered_reach.proofs.lists.Elements.{All_at, In, In_cases, In_from_Contains, In_none}
use Rattle.ordered_reach.specs.Walks.{IsGraphWalk, ListsLabels, Settles}

module _ {N : Type 0} (next : N → List N) where
  walk_short : (n : ℕ) (r : N) → Settles next n r → (cs : List ℕ) (s : N) → IsGraphWalk next r cs s → length cs < n
  walk_short zero r h cs s w = absurd h
  walk_short (suc n) r h [] s w = omega arith
  walk_short (suc n) r h (c ∷ cs) s w =
      omega (arith, walk_short n w.0 (All_at (Settles next n) (next r) h w.0 (c, w.1)) cs s w.2)

  -- a walk back to its start, repeated m times or more
  repeated : (r : N) (c : ℕ) (cs : List ℕ) → IsGraphWalk next r (c ∷ cs) r → (m : ℕ)
      → (ds : List ℕ) × IsGraphWalk next r ds r × (m ≤ length ds)
  repeated r c cs w zero = ([], refl, omega arith)
  repeated r c cs w (suc m) =
      let h = repeated r c cs w m in
      let l : length ((c ∷ cs) ++ h.0) ≡ length (c ∷ cs) + length h.0 = length-append (c ∷ cs) h.0 in
      ((c ∷ cs) ++ h.0, walk_append next (c ∷ cs) h.0 r r r w h.1, omega (arith, h.2))

  no_way_back : (n : ℕ) (r : N) → Settles next n r → (c : ℕ) (cs : List ℕ) → IsGraphWalk next r (c ∷ cs) r → ⊥
  no_way_back n r h c cs w =
      let m = repeated r c cs w n in
      let l : length m.0 < n = walk_short n r h m.0 r m.1 in omega (arith, m.2)

  -- from each node of a list some edges end at r
  abbrev LeadTo : List N → N → Type 0
  LeadTo held r = (s : N) → In s held → (c : ℕ) × (cs : List ℕ) × IsGraphWalk next s (c ∷ cs) r

  path_from_walk : (cs : List ℕ) (n : ℕ) (r : N) → Settles next n r → (held : List N) → LeadTo held r → (s : N)
      → IsGraphWalk next r cs s → IsPath next held r cs s
  path_from_walk [] n r h held l s w =
      (λ k. let m = l r (In_from_Contains held r k) in no_way_back n r h m.0 m.1 m.2, w)
  path_from_walk (c ∷ cs) zero r h held l s w = absurd h
  path_from_walk (c ∷ cs) (suc n) r h held l s w = (
    λ k. let m = l r (In_from_Contains held r k) in no_way_back (suc n) r h m.0 m.1 m.2,
    (w.0, w.1, path_from_walk cs n w.0 (All_at (Settles next n) (next r) h w.0 (c, w.1)) (r ∷ held) on s w.2),
  )
    where
      on : LeadTo (r ∷ held) w.0
      on t k = In_cases t r held k
          (λ e. (c, [], rw e (w.0, w.1, refl)))
          (λ m. let back = l t m in
          (back.0, back.1 ++ c ∷ [], walk_append next (back.0 ∷ back.1) (c ∷ []) t r w.0 back.2 (w.0, w.1, refl)))

  pub one_end : (cs : List ℕ) (r s t : N) → IsGraphWalk next r cs s → IsGraphWalk next r cs t → s ≡ t
  one_end [] r s t w v = w ∙ sym v
  one_end (c ∷ cs) r s t w v =
      let e : w.0 ≡ v.0 = some_injective w.0 v.0 (sym w.1 ∙ v.1) in one_end cs v.0 s t (rw e at w.2) v.2

pub walk_is_path : {N A : Type 0} (next : N → List N) (labels : N → List A) (r : N) (xs : List A)
    → ListsLabels next labels r xs → (cs : List ℕ) (s : N) → IsGraphWalk next r cs s ↔ IsPath next [] r cs s
walk_is_path next labels r xs l cs s = (
  λ w. path_from_walk next cs l.0 r l.1 [] (λ t k. In_none t k) s w,
  λ p. walk_of_path next cs [] r s p,
)
