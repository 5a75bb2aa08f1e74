-- The lists of a walk, in terms of whole runs.
-- Main statements: level_lists_reached.
-- Used by: Automata.
-- Idea: MostPreferred and LeastPaths over the graph of positions and nodes.
use Rattle.ordered_reach.proofs.Common.{◌<◌, slice_get, [], ◌&&◌, not, member, arith, Before, Bool, by_cases, by_test, Decides, eqb-true, false, IsInOrderOfReach, List, ListsReached, none_held, refl, run_edges, Some, subst, true, without, ℕ, ◌==◌, ◌∷◌, ◌≡◌}
use Rattle.ordered_reach.proofs.lists.Elements.{Contains_In, In, In_Contains, In_member, member_In, once_by_order}
use Rattle.std.proofs.lemmas.Bool.Decides.{nat_tests}
use Rattle.ordered_reach.proofs.lists.Pairs.{Sorted, Sorted-at, Sorted-from}
use Rattle.ordered_reach.proofs.graph.UniqueOrder.{IsEarlier}
use Rattle.ordered_reach.proofs.runs.ByPosition.{Decides-pair_eq, IsEnoughForRuns, pair_eq, states_at}
use Rattle.ordered_reach.proofs.graph.LeastPaths.{ordered_in_order}
use Rattle.ordered_reach.proofs.runs.CutLists.{level, level_is}
use Rattle.ordered_reach.proofs.runs.MostPreferred.{least_run_of, run_of}
use Rattle.ordered_reach.proofs.lists.Lexicographic.{Before-parts}

module _ {N : Type 0} {eq : N → N → Bool} (dec : (a b : N) → Decides (eq a b) (a ≡ b)) where
  -- the states of a position, without those of cap, are those of the pairs
  member-kept : (cap : N → Bool) (k : ℕ) (ps : List (ℕ × N)) (s : N)
      → member eq (without cap (states_at k ps)) s ≡ (member (pair_eq eq) ps (k, s) && not (cap s))
  member-kept cap k [] s = refl
  member-kept cap k (p ∷ ps) s = grind (arith, nat_tests, dec p.1 s, member-kept cap k ps s)

  Sorted-kept : (R : ℕ × N → ℕ × N → Type 0) (cap : N → Bool) (k : ℕ) (ps : List (ℕ × N)) → Sorted R ps
      → Sorted (λ s t. R (k, s) (k, t)) (without cap (states_at k ps))
  Sorted-kept R cap k [] a = tt
  Sorted-kept R cap k (p ∷ ps) a =
      let rest = Sorted-kept R cap k ps a.1 in
      let first : (t : N) → In t (without cap (states_at k ps)) → R p (k, t) = λ t l. a.0 (k, t)
      (member_In (Decides-pair_eq dec) ps (k, t) (grind (arith, member-kept cap k ps t, In_member dec _ t l))) in
      by_test (p.0 == k)
      (λ e. by_test (cap p.1) (λ c. rw (e, c) rest)
      (λ c. rw (e, c) ((λ t l. subst (λ j. R (j, p.1) (k, t)) (eqb-true p.0 k e) (first t l)), rest)))
      (λ e. rw e rest)

module _ {N : Type 0} {eq : N → N → Bool} (dec : (a b : N) → Decides (eq a b) (a ≡ b)) (eps bytes : ℕ → N → List N)
    (n : ℕ) (start : N) (enough : (p : ℕ × N) → IsEnoughForRuns eq eps bytes n none_held p) where
  -- the states of a position, without those of cap, of all pairs in the order of least runs
  lists_reached : (cap : N → Bool) (k : ℕ) (all : List (ℕ × N))
      → IsInOrderOfReach (run_edges eps bytes) [] ((0, start) ∷ []) all
      → ListsReached (run_edges eps bytes) cap start k (without cap (states_at k all))
  lists_reached cap k all is = record {
    reached = λ s. let kept = member-kept dec cap k all s in (
      (λ c. let m = In_member dec xs s (Contains_In dec xs s c) in
          let both : (member (pair_eq eq) all (k, s) ≡ true) × (cap s ≡ false) = grind arith in
          let h = (is.reached (k, s)).0 (In_Contains pairs all (k, s) (member_In pairs all (k, s) both.0)) in
          (both.1, run_of edges (0, start) h.0 (k, s) h.1 (λ ds z p. (ds, p)))),
      (λ h. let c = (is.reached (k, s)).1 (0 ∷ h.1.0, ((0, start), refl, h.1.1)) in
          let m = In_member pairs all (k, s) (Contains_In pairs all (k, s) c) in
          In_Contains dec xs s (member_In dec xs s (grind (arith, h.0)))),
    );
    once = once_by_order xs (λ i j s l a b. kept_at (λ p q. p ≡ q → ⊥)
        (λ i j p q l a b e. let z = is.once i j q (rw e at a) b in omega arith) i j s s l a b refl);
    by_least = λ i j s t l a b.
        let h = kept_at (IsEarlier edges [] ((0, start) ∷ [])) is.by_least i j s t l a b in
        let c = least_run_of edges (0, start) h.0 (k, s) h.2 in
        let d = least_run_of edges (0, start) h.1 (k, t) h.3 in
        let w : Before (0 ∷ c.0) (0 ∷ d.0) = rw (c.1, d.1) at h.4 in
        (c.0, d.0, c.2, d.2, by_cases (Before-parts 0 0 c.0 d.0 w) (λ z. absurd (omega arith)) (λ z. z.1));
  }
    where
      xs : List N
      xs = without cap (states_at k all)

      kept_at : (R : ℕ × N → ℕ × N → Type 0)
          → ((i j : ℕ) (p q : ℕ × N) → i < j → slice_get all i ≡ Some p → slice_get all j ≡ Some q → R p q)
          → (i j : ℕ) (s t : N) → i < j → slice_get xs i ≡ Some s → slice_get xs j ≡ Some t → R (k, s) (k, t)
      kept_at R h = Sorted-at (λ s t. R (k, s) (k, t)) xs (Sorted-kept dec R cap k all (Sorted-from R all h))

      pairs : (p q : ℕ × N) → Decides (pair_eq eq p q) (p ≡ q)
      pairs = Decides-pair_eq dec

      edges : ℕ × N → List (ℕ × N)
      edges = run_edges eps bytes

  -- the states of a position, without those of cap, are in the order of their least runs
  pub level_lists_reached : (cap : N → Bool) (k : ℕ)
      → ListsReached (run_edges eps bytes) cap start k (without cap (level eq eps bytes (λ l. l) n start k))
  level_lists_reached cap k =
      rw (← (level_is dec eps eps bytes n start enough k)) (lists_reached cap k _
      (ordered_in_order (Decides-pair_eq dec) (run_edges eps bytes) n [] ((0, start) ∷ []) enough))
