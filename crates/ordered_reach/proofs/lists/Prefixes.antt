-- Prefixes of lists, and of what a search lists.
-- Main statements: Beginning-before, Beginning-ordered.
-- Used by: CutLists.
-- Idea: a search lists its roots in turn, so fewer roots list a prefix.
use Rattle.ordered_reach.proofs.Common.{[], ap, append_assoc, before, Bool, by_test, Decides, ends, filter-append, flat_map, flat_map-append, fresh, IsBeginning, List, not, ordered, refl, without, ℕ, ◌++◌, ◌∙◌, ◌∷◌, ◌≡◌}
use Rattle.ordered_reach.proofs.lists.NewNodes.{fresh-append}

-- prefixes
pub Beginning-flat_map : {A B : Type 0} (f : A → List B) (xs ys : List A) → IsBeginning xs ys
    → IsBeginning (flat_map f xs) (flat_map f ys)
Beginning-flat_map f xs ys h = (flat_map f h.0, ap (λ l. flat_map f l) h.1 ∙ flat_map-append f xs h.0)

pub Beginning-without : {A : Type 0} (cap : A → Bool) (xs ys : List A) → IsBeginning xs ys
    → IsBeginning (without cap xs) (without cap ys)
Beginning-without cap xs ys h = (without cap h.0, ap (λ l. without cap l) h.1 ∙ filter-append (λ x. not (cap x)) xs h.0)

pub Beginning-before : {A : Type 0} (p : A → Bool) (xs ys : List A) → IsBeginning xs ys → IsBeginning (before p xs) ys
Beginning-before {A} p xs ys h = let r : IsBeginning (before p xs) xs =
    cut xs in (r.0 ++ h.0, h.1 ∙ ap (λ l. l ++ h.0) r.1 ∙ append_assoc (before p xs) r.0 h.0)
  where
    cut : (l : List A) → IsBeginning (before p l) l
    cut [] = ([], refl)
    cut (x ∷ l) = by_test (p x) (λ e. rw e (x ∷ l, refl))
        (λ e. let r : IsBeginning (before p l) l = cut l in rw e (r.0, ap (λ k. x ∷ k) r.1))

module _ {N : Type 0} {eq : N → N → Bool} (dec : (a b : N) → Decides (eq a b) (a ≡ b)) where
  pub Beginning-ordered : (edges : N → List N) (n : ℕ) (held : N → Bool) (xs ys : List N) → IsBeginning xs ys
      → IsBeginning (ordered eq edges n held xs) (ordered eq edges n held ys)
  Beginning-ordered edges n held xs ys h =
      let f : N → List N = ends eq edges n held in
      let r = Beginning-flat_map f xs ys h in
      (fresh eq _ r.0, ap (λ l. fresh eq held l) r.1 ∙ fresh-append dec held (flat_map f xs) r.0)
