-- The enumerated paths are all loop-free paths, in lexicographic order.
-- Main statements: paths, ends-paths, Ascending-paths, path_from_listed, listed_from_path.
-- Used by: LeastPaths, MostPreferred.
-- Idea: the paths through a branch begin with its number, and the numbers ascend.
use Rattle.ordered_reach.proofs.Common.{[], ap, arith, Before, Bool, by_test, cond, Contains, Decides, ends, false, false≢true, flat_map, IsPath, IsPathFrom, List, map, map-append, member, refl, slice_get, Some, suc, sym, true≢false, with_node, zero, ℕ, ◌++◌, ◌+◌, ◌∙◌, ◌∷◌, ◌≡◌}
use Rattle.ordered_reach.proofs.lists.Elements.{Contains_In, In, In_Contains, In_append_cases, In_append_left, In_append_right, In_cases, In_head, In_map, In_map_from, In_member, In_none, In_tail, member_In}
use Rattle.ordered_reach.proofs.lists.Pairs.{Sorted, Sorted-append, Sorted-map}
use Rattle.ordered_reach.proofs.lists.Lexicographic.{Before-first, Before-rest}
use Rattle.ordered_reach.proofs.graph.ClosedSets.{IsEnough}
use Rattle.std.proofs.lemmas.Simd.{map-map}

-- a path with its end, after one more edge number
abbrev pub step : {N : Type 0} → ℕ → List ℕ × N → List ℕ × N
step i p = (i ∷ p.0, p.1)

-- the paths from each of the nodes, numbered from i
abbrev pub branches : {N : Type 0} → (N → List (List ℕ × N)) → ℕ → List N → List (List ℕ × N)
branches f i [] = []
branches f i (t ∷ ts) = map (step i) (f t) ++ branches f (suc i) ts

-- the loop-free paths with their ends, in order
abbrev pub paths : {N : Type 0} → (N → N → Bool) → (N → List N) → ℕ → (N → Bool) → N → List (List ℕ × N)
paths eq edges zero held r = []
paths eq edges (suc n) held r =
    cond (held r) [] (([], r) ∷ branches (paths eq edges n (with_node eq held r)) 0 (edges r))

-- each path precedes all later ones
abbrev pub Ascending : {N : Type 0} → List (List ℕ × N) → Type 0
Ascending ps = Sorted (λ p q. Before p.0 q.0) ps

-- a path of a branch
pub branches_from : {N P : Type 0} (f : N → List (List ℕ × N)) (i : ℕ) (ts : List N) (p : List ℕ × N)
    → In p (branches f i ts)
    → ((c j : ℕ) (t : N) (q : List ℕ × N) → i + c ≡ j → slice_get ts c ≡ Some t → In q (f t) → p ≡ step j q → P) → P
branches_from f i [] p h k = In_none p h
branches_from f i (t ∷ ts) p h k = In_append_cases p (map (step i) (f t)) (branches f (suc i) ts) h
    (λ l. In_map_from (step i) p (f t) l (λ q m e. k 0 i t q (omega arith) refl m e))
    (λ l. branches_from f (suc i) ts p l (λ c j u q z g m e. k (suc c) j u q (omega arith) g m e))

pub branches_in : {N : Type 0} (f : N → List (List ℕ × N)) (i c j : ℕ) (ts : List N) (t : N) (q : List ℕ × N)
    → i + c ≡ j → slice_get ts c ≡ Some t → In q (f t) → In (step j q) (branches f i ts)
branches_in f i c j [] t q z e h = In_none t (c, e)
branches_in f i zero j (u ∷ ts) t q z e h =
    let k : u ≡ t = cc in
    let w : j ≡ i = omega arith in
    rw w (In_append_left (step i q) (map (step i) (f u)) (branches f (suc i) ts) (In_map (step i) q (f u) (rw k h)))
branches_in f i (suc c) j (u ∷ ts) t q z e h =
    In_append_right (step j q) (map (step i) (f u)) _ (branches_in f (suc i) c j ts t q (omega arith) e h)

pub Ascending-branches : {N : Type 0} (f : N → List (List ℕ × N)) (i : ℕ) (ts : List N) → ((t : N) → Ascending (f t))
    → Ascending (branches f i ts)
Ascending-branches f i [] h = tt
Ascending-branches f i (t ∷ ts) h =
    Sorted-append _ (map (step i) (f t)) (branches f (suc i) ts)
    (Sorted-map _ (step i) _ (f t) (λ p q k l b. Before-rest i p.0 q.0 b) (h t)) (Ascending-branches f (suc i) ts h)
    (λ p q k l. In_map_from (step i) p (f t) k
    (λ x m e. branches_from f (suc i) ts q l
    (λ c j u y z g n d. rw (e, d) (Before-first i j x.0 y.0 (omega arith)))))

-- the ends of the branches
pub map-branches : {N : Type 0} (f : N → List (List ℕ × N)) (g : N → List N) (i : ℕ) (ts : List N)
    → ((t : N) → map (λ p. p.1) (f t) ≡ g t) → map (λ p. p.1) (branches f i ts) ≡ flat_map g ts
map-branches f g i [] h = refl
map-branches f g i (t ∷ ts) h =
    rw (map-append (λ p. p.1) (map (step i) (f t)) (branches f (suc i) ts), map-map (λ p. p.1) (step i) (f t))
    (cc (h t, map-branches f g (suc i) ts h))

module _ {N : Type 0} {eq : N → N → Bool} (dec : (a b : N) → Decides (eq a b) (a ≡ b)) where
  not_held : (held : List N) (r : N) → member eq held r ≡ false → ¬ (Contains held r)
  not_held held r e c = true≢false (sym (In_member dec held r (Contains_In dec held r c)) ∙ e)

  held_not : (held : List N) (r : N) → ¬ (Contains held r) → member eq held r ≡ false
  held_not held r h =
      by_test (member eq held r) (λ e. absurd (h (In_Contains dec held r (member_In dec held r e)))) (λ e. e)

  module _ (edges : N → List N) where
    -- the ends of the paths
    pub ends-paths : (n : ℕ) (held : N → Bool) (r : N)
        → map (λ p. p.1) (paths eq edges n held r) ≡ ends eq edges n held r
    ends-paths zero held r = refl
    ends-paths (suc n) held r = by_test (held r)
        (λ e. rw e refl)
        (λ e. rw e (ap (λ l. r ∷ l) (map-branches _ _ 0 (edges r) (λ t. ends-paths n (with_node eq held r) t))))

    pub Ascending-paths : (n : ℕ) (held : N → Bool) (r : N) → Ascending (paths eq edges n held r)
    Ascending-paths zero held r = tt
    Ascending-paths (suc n) held r = by_test (held r)
        (λ e. rw e tt)
        (λ e. let rest = Ascending-branches _ 0 (edges r) (λ t. Ascending-paths n (with_node eq held r) t) in
        rw e ((λ q l. branches_from _ 0 (edges r) q l (λ c j t p z g m d. rw d refl)), rest))

    -- each listed pair is a path with its end
    pub path_from_branch : (n : ℕ) (held roots : List N) (p : List ℕ × N)
        → ((t : N) (q : List ℕ × N) → In q (paths eq edges n (member eq held) t) → IsPath edges held t q.0 q.1)
        → In p (branches (paths eq edges n (member eq held)) 0 roots) → IsPathFrom edges held roots p.0 p.1
    path_from_branch n held roots p h l = branches_from (paths eq edges n (member eq held)) 0 roots p l
        (λ c j t q z g m d. let w : j ≡ c = omega arith in rw (d, w) (t, g, h t q m))

    path_behind : (held : List N) (r : N) (cs : List ℕ) (s : N) → ¬ (Contains held r)
        → IsPathFrom edges (r ∷ held) (edges r) cs s → IsPath edges held r cs s
    path_behind held r [] s n h = absurd h
    path_behind held r (c ∷ cs) s n h = (n, h)

    pub path_from_listed : (n : ℕ) (held : List N) (r : N) (p : List ℕ × N)
        → In p (paths eq edges n (member eq held) r) → IsPath edges held r p.0 p.1
    path_from_listed zero held r p h = In_none p h
    path_from_listed (suc n) held r p h = by_test (member eq held r)
        (λ e. In_none p (rw e at h))
        (λ e. In_cases p ([], r) (branches (paths eq edges n (member eq (r ∷ held))) 0 (edges r)) (rw e at h)
        (λ d. rw d (not_held held r e, refl))
        (λ l. path_behind held r p.0 p.1 (not_held held r e)
        (path_from_branch n (r ∷ held) (edges r) p (path_from_listed n (r ∷ held)) l)))

    -- each path is listed
    pub listed_from_path : (n : ℕ) (held : List N) (r : N) (cs : List ℕ) (s : N)
        → IsEnough eq edges n (member eq held) r → IsPath edges held r cs s
        → In (cs, s) (paths eq edges n (member eq held) r)
    listed_from_path zero held r [] s a h = absurd (false≢true (sym (held_not held r h.0) ∙ a))
    listed_from_path zero held r (c ∷ cs) s a h = absurd (false≢true (sym (held_not held r h.0) ∙ a))
    listed_from_path (suc n) held r [] s a h = rw (held_not held r h.0, h.1) (In_head ([], r) _)
    listed_from_path (suc n) held r (c ∷ cs) s a h =
        let e : member eq held r ≡ false = held_not held r h.0 in
        rw e (In_tail (c ∷ cs, s) ([], r) _ (branches_in _ 0 c c (edges r) h.1.0 (cs, s) (omega arith) h.1.1
        (listed_from_path n (r ∷ held) h.1.0 cs s (a e h.1.0 (In_member dec (edges r) h.1.0 (c, h.1.1))) h.1.2)))
