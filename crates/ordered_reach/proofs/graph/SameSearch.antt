-- A search need not be repeated if more edges add none at the nodes that it listed.
-- Main statements: not_redone.
-- Used by: the step that reads recorded states.
-- Idea: the listed nodes are closed under the added edges.
use Rattle.ordered_reach.proofs.Common.{refl, [], ap, arith, Bool, by_test, Decides, ends, false, flat_map, fresh, List, member, none_held, or_false, ordered, sym, true, without, ℕ, ◌∙◌, ◌∷◌, ◌≡◌}
use Rattle.ordered_reach.proofs.graph.ClosedSets.{IsClosed, IsEnough, ends_agree, ends_self, roots_find_closed}
use Rattle.ordered_reach.proofs.graph.RepeatedSearch.{ordered_redone_without}
use Rattle.ordered_reach.proofs.lists.NewNodes.{flat_map-agree, member-flat_map, member-fresh}

module _ {N : Type 0} {eq : N → N → Bool} (dec : (a b : N) → Decides (eq a b) (a ≡ b)) where
  -- the nodes reached from roots are closed
  pub roots_closed : (edges : N → List N) (n : ℕ) (roots : List N) → ((x : N) → IsEnough eq edges n none_held x)
      → IsClosed eq edges (member eq (flat_map (ends eq edges n none_held) roots)) none_held
  roots_closed edges n roots a = roots_find_closed dec edges n none_held roots a

  -- the same edges at all listed nodes: the same list
  ordered-same_edges : (edges more : N → List N) (n : ℕ) (roots : List N) → ((x : N) → IsEnough eq edges n none_held x)
      → ((x : N) → member eq (ordered eq edges n none_held roots) x ≡ true → edges x ≡ more x)
      → ordered eq edges n none_held roots ≡ ordered eq more n none_held roots
  ordered-same_edges edges more n roots a h =
      let f : N → List N = ends eq edges n none_held in
      let v : N → Bool = member eq (flat_map f roots) in
      ap (λ l. fresh eq none_held l) (flat_map-agree dec f (ends eq more n none_held) roots (λ r l.
      ends_agree dec edges more n v none_held none_held r (roots_closed edges n roots a) (λ x m. refl)
      (λ x m. h x (grind (arith, member-fresh dec none_held (flat_map f roots) x)))
      (member-flat_map dec f roots r r l (or_false (member eq (f r) r) (ends_self dec edges n none_held r (a r))))))

  -- where each listed node outside cap has the same edges, the recorded list is the list computed
  -- again from it
  pub not_redone : (edges more : N → List N) → ((x y : N) → member eq (edges x) y ≡ true → member eq (more x) y ≡ true)
      → (n : ℕ) (cap : N → Bool) (next : N → N)
      → ((x : N) → cap x ≡ true → edges x ≡ next x ∷ []) → ((x : N) → cap x ≡ true → more x ≡ next x ∷ [])
      → (roots : List N) → ((x : N) → IsEnough eq edges n none_held x) → ((x : N) → IsEnough eq more n none_held x)
      → ((x : N) → member eq (without cap (ordered eq edges n none_held roots)) x ≡ true → edges x ≡ more x)
      → without cap (ordered eq more n none_held (without cap (ordered eq edges n none_held roots))) ≡ without cap
      (ordered eq edges n none_held roots)
  not_redone edges more sub n cap next one one_more roots a b h =
      ordered_redone_without dec edges more n cap next
      (record { fewer = sub; one = one; one_more = one_more; enough = a; enough_more = b }) roots
      ∙ sym (ap (λ l. without cap l) (ordered-same_edges edges more n roots a (λ x m. by_test (cap x)
      (λ e. one x e ∙ sym (one_more x e))
      (λ e. h x (kept (ordered eq edges n none_held roots) x e m)))))
    where
      kept : (xs : List N) (x : N) → cap x ≡ false → member eq xs x ≡ true → member eq (without cap xs) x ≡ true
      kept [] x e m = m
      kept (y ∷ xs) x e m = grind (arith, dec y x, kept xs x e)
