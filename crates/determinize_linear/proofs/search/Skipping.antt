-- A depth-first search that skips nodes from which no path accepts.
-- Main statements: found, tries, found-start, found-held, found-new, found-here, tries-held, tries-new.
-- Used by: UnderWay, and the loop of a search.
-- Idea: such nodes are a closed set, so the first accepting node is the same without them.
use Rattle.ordered_reach.proofs.Common.{[], ap, append-nil, arith, Bool, Decides, edge_count, ends, false, filter}
use Rattle.ordered_reach.proofs.Common.{find, flat_map, fresh, joined, length, length-append, List, member, none_held}
use Rattle.ordered_reach.proofs.Common.{not, Option, ordered, refl, Some, suc, sym, true, with_node, ℕ, ◌&&◌, ◌+◌}
use Rattle.ordered_reach.proofs.Common.{◌++◌, ◌∙◌, ◌∷◌, ◌≡◌}
use Rattle.ordered_reach.proofs.graph.ClosedSets.{IsClosed, IsEnough, IsEnough-from_none, ends-closed_set, ends-held}
use Rattle.ordered_reach.proofs.graph.ClosedSets.{ends_agree, fresh-ends_new}

-- the first accepting node of a search past the visited nodes
abbrev pub found : {N : Type 0} → (N → N → Bool) → (N → List N) → ℕ → (N → Bool) → (N → Bool) → List N → Option N
found eq edges n acc held rs = find acc (ordered eq edges n held rs)

-- the number of nodes that the search has still to pop
abbrev pub tries : {N : Type 0} → (N → N → Bool) → (N → List N) → ℕ → (N → Bool) → List N → ℕ
tries eq edges n held rs = length rs + edge_count edges (ordered eq edges n held rs)

find-miss : {N : Type 0} (acc : N → Bool) (x : N) (xs : List N) → acc x ≡ false → find acc (x ∷ xs) ≡ find acc xs
find-miss acc x xs a = rw a refl

find-hit : {N : Type 0} (acc : N → Bool) (x : N) (xs : List N) → acc x ≡ true → find acc (x ∷ xs) ≡ Some x
find-hit acc x xs a = rw a refl

find-left_out : {N : Type 0} (acc v : N → Bool) (xs : List N) → ((x : N) → v x ≡ true → acc x ≡ false)
    → find acc (filter (λ x. not (v x)) xs) ≡ find acc xs
find-left_out acc v [] h = refl
find-left_out acc v (x ∷ xs) h = grind (arith, h x, find-left_out acc v xs h)

module _ {N : Type 0} {eq : N → N → Bool} (dec : (a b : N) → Decides (eq a b) (a ≡ b)) where
  find-fresh : (acc seen : N → Bool) (xs : List N) → ((x : N) → seen x ≡ true → acc x ≡ false)
      → find acc (fresh eq seen xs) ≡ find acc xs
  find-fresh acc seen [] h = refl
  find-fresh acc seen (x ∷ xs) h =
      grind (arith, h, dec, find-fresh acc seen xs h, find-fresh acc (with_node eq seen x) xs)

  module _ (edges : N → List N) (n : ℕ) (enough : (x : N) → IsEnough eq edges n none_held x) where
    ordered-held : (held : N → Bool) (r : N) (rs : List N) → held r ≡ true
        → ordered eq edges n held (r ∷ rs) ≡ ordered eq edges n held rs
    ordered-held held r rs e = rw (ends-held dec edges n held r e)

    ordered-new : (held : N → Bool) (r : N) (rs : List N) → held r ≡ false
        → ordered eq edges n held (r ∷ rs) ≡ r ∷ ordered eq edges n (with_node eq held r) (edges r ++ rs)
    ordered-new held r rs e =
        fresh-ends_new dec edges n held r rs e (IsEnough-from_none dec edges n held r (enough r))

    pub tries-held : (held : N → Bool) (r : N) (rs : List N) → held r ≡ true
        → tries eq edges n held (r ∷ rs) ≡ suc (tries eq edges n held rs)
    tries-held held r rs e = omega (arith, ap (λ l. edge_count edges l) (ordered-held held r rs e))

    pub tries-new : (held : N → Bool) (r : N) (rs : List N) → held r ≡ false
        → tries eq edges n held (r ∷ rs) ≡ suc (tries eq edges n (with_node eq held r) (edges r ++ rs))
    tries-new held r rs e =
        omega (arith, ap (λ l. edge_count edges l) (ordered-new held r rs e), length-append (edges r) rs)

    module _ (acc : N → Bool) (held : N → Bool) where
      pub found-held : (r : N) (rs : List N) → held r ≡ true
          → found eq edges n acc held (r ∷ rs) ≡ found eq edges n acc held rs
      found-held r rs e = ap (λ l. find acc l) (ordered-held held r rs e)

      pub found-new : (r : N) (rs : List N) → held r ≡ false → acc r ≡ false
          → found eq edges n acc held (r ∷ rs) ≡ found eq edges n acc (with_node eq held r) (edges r ++ rs)
      found-new r rs e a = ap (λ l. find acc l) (ordered-new held r rs e)
          ∙ find-miss acc r (ordered eq edges n (with_node eq held r) (edges r ++ rs)) a

      pub found-here : (r : N) (rs : List N) → held r ≡ false → acc r ≡ true
          → found eq edges n acc held (r ∷ rs) ≡ Some r
      found-here r rs e a = ap (λ l. find acc l) (ordered-new held r rs e)
          ∙ find-hit acc r (ordered eq edges n (with_node eq held r) (edges r ++ rs)) a

      -- from the visited nodes that can be met again only visited nodes are reached, and none of them accepts
      module _ (inside : N → Bool) (root : N)
          (stay : (x y : N) → inside x ≡ true → member eq (edges x) y ≡ true → inside y ≡ true)
          (none : (x : N) → held x ≡ true → acc x ≡ false)
          (closed : (x y : N) → held x ≡ true → inside x ≡ true → member eq (edges x) y ≡ true → held y ≡ true)
          (start : inside root ≡ true) where
        abbrev spent : N → Bool
        spent x = inside x && held x

        inside_closed : IsClosed eq edges inside none_held
        inside_closed x y v m = grind (arith, stay x y v m)

        spent_closed : IsClosed eq edges spent none_held
        spent_closed x y v m = grind (arith, v, stay x y, closed x y, m)

        spent_none : (x : N) → spent x ≡ true → acc x ≡ false
        spent_none x v = grind (arith, v, none x)

        ends-spent : ends eq edges n held root ≡ filter (λ x. not (spent x)) (ends eq edges n none_held root)
        ends-spent =
            ends_agree dec edges edges n inside held (joined spent none_held) root inside_closed
            (λ x i. grind (arith, i)) (λ x i. refl) start
            ∙ sym (ends-closed_set dec edges n spent none_held root spent_closed)

        -- the first accepting node is that of the search without visited nodes
        pub found-start : found eq edges n acc held (root ∷ [])
            ≡ find acc (flat_map (ends eq edges n none_held) (root ∷ []))
        found-start =
            find-fresh acc held (flat_map (ends eq edges n held) (root ∷ [])) none
            ∙ ap (λ l. find acc (l ++ [])) ends-spent
            ∙ ap (λ l. find acc l) (append-nil (filter (λ x. not (spent x)) (ends eq edges n none_held root)))
            ∙ find-left_out acc spent (ends eq edges n none_held root) spent_none
            ∙ ap (λ l. find acc l) (sym (append-nil (ends eq edges n none_held root)))
