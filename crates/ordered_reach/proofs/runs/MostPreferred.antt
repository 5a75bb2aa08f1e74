-- The first accepting node of a search is the end of the most preferred run.
-- Main statements: IsMostPreferred, first_is_preferred, first_none_preferred.
-- Used by: RunLists, Automata.
-- Idea: the paths are enumerated in order, so the first that accepts is the least.
use Rattle.ordered_reach.proofs.Common.{arith, member, [], ap, Before, Bool, by_test, Decides, ends, false, false≢true, find, flat_map, inl, inr, IsLeastPath, IsLeastRun, IsPath, IsPathFrom, List, map, None, none_held, refl, Some, suc, sym, true, zero, ℕ, ◌∙◌, ◌∷◌, ◌≡◌, ◌⊎◌}
use Rattle.ordered_reach.specs.Paths.{IsLeast}
use Rattle.ordered_reach.proofs.lists.Elements.{In, In_cases, In_head, In_map, In_member, In_tail}
use Rattle.ordered_reach.proofs.graph.ClosedSets.{IsEnough}
use Rattle.ordered_reach.proofs.graph.LeastPaths.{all_ends, all_in_order, all_paths, listed_of, path_of}
use Rattle.ordered_reach.proofs.graph.PathLists.{Ascending}
use Rattle.ordered_reach.proofs.lists.Lexicographic.{same_first}

-- a run to an accepting node that no other such run precedes
pub record IsMostPreferred {N : Type 0} (edges : N → List N) (start : N) (accepts : N → Bool) (s : N) : Type 0 where
  pub choices : List ℕ
  pub run : IsPath edges [] start choices s
  pub accepted : accepts s ≡ true
  pub preferred : (ds : List ℕ) (t : N) → IsPath edges [] start ds t → accepts t ≡ true
      → (choices ≡ ds) ⊎ Before choices ds

-- a path from one root is a run after the number 0
pub run_of : {N P : Type 0} (edges : N → List N) (start : N) (cs : List ℕ) (s : N)
    → IsPathFrom edges [] (start ∷ []) cs s → ((ds : List ℕ) → cs ≡ 0 ∷ ds → IsPath edges [] start ds s → P) → P
run_of edges start [] s h k = absurd h
run_of edges start (zero ∷ ds) s h k =
    k ds refl (let g : Some start ≡ Some h.0 = h.1 in let e : start ≡ h.0 = cc in rw (← e) at h.2)
run_of edges start (suc i ∷ ds) s h k = absurd (let g : None ≡ Some h.0 = h.1 in cc)

-- a least path from one root is a least run after the number 0
pub least_run_of : {N : Type 0} (edges : N → List N) (start : N) (cs : List ℕ) (s : N)
    → IsLeastPath edges [] (start ∷ []) cs s → (ds : List ℕ) × (cs ≡ 0 ∷ ds) × IsLeastRun edges start ds s
least_run_of edges start cs s h = run_of edges start cs s h.path (λ ds e p.
    let least : IsLeast (λ es. IsPath edges [] start es s) ds = λ es q.
    same_first 0 ds es (rw e at (h.least (0 ∷ es) (start, refl, q))) in
    (ds, e, record { run = p; least = least }))

module _ {N : Type 0} {eq : N → N → Bool} (dec : (a b : N) → Decides (eq a b) (a ≡ b)) where
  -- the first accepting end of sorted paths is that of the least of them
  first_least : (acc : N → Bool) (ps : List (List ℕ × N)) → Ascending ps → (s : N)
      → find acc (map (λ p. p.1) ps) ≡ Some s
      → (k : List ℕ) × In (k, s) ps × (acc s ≡ true) ×
      ((q : List ℕ × N) → In q ps → acc q.1 ≡ true → (k ≡ q.0) ⊎ Before k q.0)
  first_least acc [] a s e = absurd (let k : Some s ≡ None = sym e in cc)
  first_least acc (p ∷ ps) a s e = by_test (acc p.1)
      (λ c. let w : Some p.1 ≡ Some s = rw c at e in let z : p.1 ≡ s = cc in
      rw (← z) (p.0, In_head p ps, c, λ q h k. In_cases q p ps h (λ d. inl (λ i. (sym d i).0)) (λ l. inr (a.0 q l))))
      (λ c. let r = first_least acc ps a.1 s (rw c at e) in
      let no : (q : List ℕ × N) → q ≡ p → acc q.1 ≡ true → ⊥ =
      λ q d k. false≢true (sym c ∙ ap (λ x. acc x.1) (sym d) ∙ k) in
      (r.0, In_tail (r.0, s) p ps r.1, r.2, λ q h k. In_cases q p ps h (λ d. absurd (no q d k)) (λ l. r.3 q l k)))

  first_none : (acc : N → Bool) (xs : List N) (t : N) → find acc xs ≡ None → member eq xs t ≡ true → acc t ≡ false
  first_none acc [] t e m = grind arith
  first_none acc (x ∷ xs) t e m = grind (arith, dec x t, first_none acc xs t)

  module _ (edges : N → List N) (n : ℕ) (start : N) (a : (r : N) → IsEnough eq edges n none_held r)
      (acc : N → Bool) where
    -- the first accepting node of the search is the end of the most preferred run
    pub first_is_preferred : (s : N) → find acc (flat_map (ends eq edges n none_held) (start ∷ [])) ≡ Some s
        → IsMostPreferred edges start acc s
    first_is_preferred s e =
        let r = first_least acc (all_paths dec edges n [] (start ∷ []) a) (all_in_order dec edges n [] (start ∷ []) a) s
        (ap (λ l. find acc l) (all_ends dec edges n [] (start ∷ []) a) ∙ e) in
        run_of edges start r.0 s (path_of dec edges n [] (start ∷ []) a r.0 s r.1) (λ cs z p. record {
          choices = cs;
          run = p;
          accepted = r.2;
          preferred = λ ds t q k. same_first 0 cs ds (rw z at
              (r.3 (0 ∷ ds, t) (listed_of dec edges n [] (start ∷ []) a (0 ∷ ds) t (start, refl, q)) k));
        })

    -- if the search has no accepting node, no run has
    pub first_none_preferred : find acc (flat_map (ends eq edges n none_held) (start ∷ [])) ≡ None
        → (ds : List ℕ) (t : N) → IsPath edges [] start ds t → acc t ≡ false
    first_none_preferred e ds t p =
        let listed = listed_of dec edges n [] (start ∷ []) a (0 ∷ ds) t (start, refl, p) in
        first_none acc _ t e (In_member dec _ t (rw (all_ends dec edges n [] (start ∷ []) a) at
        (In_map (λ p. p.1) (0 ∷ ds, t) (all_paths dec edges n [] (start ∷ []) a) listed)))
