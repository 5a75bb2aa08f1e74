-- The nodes that a search lists are in the order of their least paths.
-- Main statements: ordered_in_order.
-- Used by: FiniteReach, RootByRoot, MostPreferred, RunLists.
-- Idea: the first of ascending paths to a node is its least one.
use Rattle.ordered_reach.proofs.Common.{[], ap, arith, Before, Bool, by_test, cond, Contains, Decides, ends, false, false≢true, flat_map, fresh, inl, inr, IsInOrderOfReach, IsLeastPath, IsPathFrom, List, map, member, or_false_left, or_false_right, ordered, refl, suc, sym, true, true≢false, with_node, zero, ℕ, ◌∙◌, ◌∷◌, ◌≡◌, ◌⊎◌}
use Rattle.ordered_reach.proofs.lists.Elements.{Contains_In, In, In_Contains, In_cases, In_head, In_map, In_map_from, In_member, In_none, In_tail, member_In, once_by_order}
use Rattle.ordered_reach.proofs.graph.ClosedSets.{IsEnough, ends_cases}
use Rattle.ordered_reach.proofs.lists.Pairs.{Sorted, Sorted-at, Sorted-map}
use Rattle.ordered_reach.proofs.graph.UniqueOrder.{IsEarlier, asym_earlier}
use Rattle.ordered_reach.proofs.graph.PathLists.{Ascending, Ascending-branches, Ascending-paths, branches, branches_in, path_from_branch, ends-paths, listed_from_path, map-branches, path_from_listed, paths}
use Rattle.ordered_reach.proofs.lists.NewNodes.{flat_map-member, member-fresh}

-- the least key of a node among listed pairs
abbrev pub LeastIn : {N : Type 0} → List (List ℕ × N) → List ℕ → N → Type 0
LeastIn ps k x = In (k, x) ps × ((l : List ℕ) → In (l, x) ps → (k ≡ l) ⊎ Before k l)

-- the first pair with each end that is not seen
abbrev pub firsts : {N : Type 0} → (N → N → Bool) → (N → Bool) → List (List ℕ × N) → List (List ℕ × N)
firsts eq seen [] = []
firsts eq seen (p ∷ ps) = cond (seen p.1) (firsts eq seen ps) (p ∷ firsts eq (with_node eq seen p.1) ps)

least_behind : {N : Type 0} (p : List ℕ × N) (ps : List (List ℕ × N)) (k : List ℕ) (x : N) → (x ≡ p.1 → ⊥)
    → LeastIn ps k x → LeastIn (p ∷ ps) k x
least_behind p ps k x n h =
    (In_tail (k, x) p ps h.0, λ l m. In_cases (l, x) p ps m (λ d. absurd (n (ap (λ q. q.1) d))) (h.1 l))

module _ {N : Type 0} {eq : N → N → Bool} (dec : (a b : N) → Decides (eq a b) (a ≡ b)) where
  map-firsts : (seen : N → Bool) (ps : List (List ℕ × N))
      → map (λ p. p.1) (firsts eq seen ps) ≡ fresh eq seen (map (λ p. p.1) ps)
  map-firsts seen [] = refl
  map-firsts seen (p ∷ ps) = grind (arith, map-firsts seen ps, map-firsts (with_node eq seen p.1) ps)

  -- the first pair with an end has its least key
  firsts_least : (seen : N → Bool) (ps : List (List ℕ × N)) → Ascending ps → (q : List ℕ × N) → In q (firsts eq seen ps)
      → LeastIn ps q.0 q.1 × (seen q.1 ≡ false)
  firsts_least seen [] a q h = In_none q h
  firsts_least seen (p ∷ ps) a q h = by_test (seen p.1)
      (λ e. let r = firsts_least seen ps a.1 q (rw e at h) in
      (least_behind p ps q.0 q.1 (λ d. true≢false (sym e ∙ ap seen (sym d) ∙ r.1)) r.0, r.1))
      (λ e. In_cases q p (firsts eq (with_node eq seen p.1) ps) (rw e at h)
      (λ d. let front : LeastIn (p ∷ ps) p.0 p.1 = (
        In_head p ps,
        λ l m. In_cases (l, p.1) p ps m
            (λ c. inl (ap (λ z. z.0) (sym c))) (λ n. inr (a.0 (l, p.1) n)),
      ) in rw d (front, e))
      (λ l. let r = firsts_least (with_node eq seen p.1) ps a.1 q l in
      let apart : q.1 ≡ p.1 → ⊥ = λ d. true≢false (sym ((dec p.1 q.1).1 (sym d)) ∙ or_false_left _ (seen q.1) r.1) in
      (least_behind p ps q.0 q.1 apart r.0, or_false_right (eq p.1 q.1) (seen q.1) r.1)))

  Ascending-firsts : (seen : N → Bool) (ps : List (List ℕ × N)) → Ascending ps → Ascending (firsts eq seen ps)
  Ascending-firsts seen [] a = tt
  Ascending-firsts seen (p ∷ ps) a = by_test (seen p.1)
      (λ e. rw e (Ascending-firsts seen ps a.1))
      (λ e. let rest = Ascending-firsts (with_node eq seen p.1) ps a.1 in
      rw e ((λ q l. a.0 q (firsts_least (with_node eq seen p.1) ps a.1 q l).0.0), rest))

  ends_not_held : (edges : N → List N) (n : ℕ) (held : N → Bool) (r x : N) → member eq (ends eq edges n held r) x ≡ true
      → held x ≡ false
  ends_not_held edges zero held r x m = absurd (false≢true m)
  ends_not_held edges (suc n) held r x m = ends_cases dec edges n held r x m
      (λ e q. rw q at e)
      (λ e t l z. or_false_right (eq r x) (held x) (ends_not_held edges n (with_node eq held r) t x z))

  module _ (edges : N → List N) (n : ℕ) (held roots : List N)
      (a : (r : N) → IsEnough eq edges n (member eq held) r) where
    abbrev pub all_paths : List (List ℕ × N)
    all_paths = branches (paths eq edges n (member eq held)) 0 roots

    pub all_ends : map (λ p. p.1) all_paths ≡ flat_map (ends eq edges n (member eq held)) roots
    all_ends = map-branches _ _ 0 roots (λ t. ends-paths dec edges n (member eq held) t)

    pub all_in_order : Ascending all_paths
    all_in_order = Ascending-branches _ 0 roots (λ t. Ascending-paths dec edges n (member eq held) t)

    pub path_of : (ks : List ℕ) (s : N) → In (ks, s) all_paths → IsPathFrom edges held roots ks s
    path_of ks s h = path_from_branch dec edges n held roots (ks, s) (path_from_listed dec edges n held) h

    pub listed_of : (ks : List ℕ) (s : N) → IsPathFrom edges held roots ks s → In (ks, s) all_paths
    listed_of [] s h = absurd h
    listed_of (c ∷ cs) s h = branches_in _ 0 c c roots h.0 (cs, s) (omega arith) h.1
        (listed_from_path dec edges n held h.0 cs s (a h.0) h.2)

    abbrev pub first_paths : List (List ℕ × N)
    first_paths = firsts eq (member eq held) all_paths

    listed : map (λ p. p.1) first_paths ≡ ordered eq edges n (member eq held) roots
    listed = map-firsts (member eq held) all_paths ∙ ap (λ l. fresh eq (member eq held) l) all_ends

    first_is_least : (p : List ℕ × N) → In p first_paths → IsLeastPath edges held roots p.0 p.1
    first_is_least p h =
        let least = (firsts_least (member eq held) all_paths all_in_order p h).0 in
        record { path = path_of p.0 p.1 least.0; least = λ ds d. least.1 ds (listed_of ds p.1 d) }

    in_order : Sorted (IsEarlier edges held roots) (ordered eq edges n (member eq held) roots)
    in_order = rw (← listed) (Sorted-map (IsEarlier edges held roots) (λ p. p.1) (λ p q. Before p.0 q.0) first_paths
        (λ p q h k b. (p.0, q.0, first_is_least p h, first_is_least q k, b))
        (Ascending-firsts (member eq held) all_paths all_in_order))

    reached_to : (s : N) (cs : List ℕ) → IsPathFrom edges held roots cs s
        → Contains (ordered eq edges n (member eq held) roots) s
    reached_to s cs h =
        let k = In_member dec _ s (rw all_ends at (In_map (λ p. p.1) (cs, s) all_paths (listed_of cs s h))) in
        let free : member eq held s ≡ false =
        flat_map-member dec _ roots s k (λ t l z. ends_not_held edges n (member eq held) t s z) in
        let new = member-fresh dec (member eq held) (flat_map (ends eq edges n (member eq held)) roots) s in
        In_Contains dec _ s (member_In dec _ s (grind (arith, k, free, new)))

    -- the list of the search has the nodes at the ends of paths from the roots, in the order of
    -- their least paths
    pub ordered_in_order : IsInOrderOfReach edges held roots (ordered eq edges n (member eq held) roots)
    ordered_in_order =
        let by_least = Sorted-at (IsEarlier edges held roots) (ordered eq edges n (member eq held) roots) in_order in
        record {
          reached = λ s. (
            (λ c. In_map_from (λ p. p.1) s first_paths (rw (← listed) at (Contains_In dec _ s c))
                (λ p h e. (p.0, rw e (first_is_least p h).path))),
            (λ h. reached_to s h.0 h.1),
          );
          once = once_by_order (ordered eq edges n (member eq held) roots) (λ i j s l e f.
              let b = by_least i j s s l e f in asym_earlier edges held roots s s b b);
          by_least = by_least;
        }
