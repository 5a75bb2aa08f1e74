-- A walk may meet a node twice; to the end of each walk there is a loop-free path, too.
-- Main statements: walk_of_path, walk_append, path_of_walk, leads_then.
-- Used by: LoopFreeWalks, and the runs of a reversed NFA.
-- Idea: the ends of loop-free paths are closed under steps, as a step to a node of the path is cut off there.
use Rattle.std.specs.Bool.{Decides}
use Rattle.std.specs.Prelude.{Contains}
use Rattle.std.proofs.Common.{◌≡◌, ◌++◌, ◌∙◌, ◌∷◌, ℕ, Bool, List, None, Some, [], false, refl, subst, sym}
use Rattle.std.proofs.lemmas.Bool.{true≢false}
use Rattle.ordered_reach.specs.Paths.{IsPath}
use Rattle.ordered_reach.specs.Walks.{IsGraphWalk}
use Rattle.ordered_reach.proofs.lists.Elements.{Contains_In, In, In_Contains, In_cases}
use Rattle.ordered_reach.proofs.Cases.{by_test}

pub walk_append : {N : Type 0} (edges : N → List N) (cs ds : List ℕ) (r s t : N) → IsGraphWalk edges r cs s
    → IsGraphWalk edges s ds t → IsGraphWalk edges r (cs ++ ds) t
walk_append edges [] ds r s t w v = rw w at v
walk_append edges (c ∷ cs) ds r s t w v = (w.0, w.1, walk_append edges cs ds w.0 s t w.2 v)

-- some walk leads from r to s
abbrev pub Leads : {N : Type 0} → (N → List N) → N → N → Type 0
Leads edges r s = (cs : List ℕ) × IsGraphWalk edges r cs s

pub leads_here : {N : Type 0} (edges : N → List N) (r : N) → Leads edges r r
leads_here edges r = ([], refl)

-- a step and then a walk are a walk
pub leads_by : {N : Type 0} (edges : N → List N) (r s t : N) → In s (edges r) → Leads edges s t → Leads edges r t
leads_by edges r s t e h = (e.0 ∷ h.0, (s, e.1, h.1))

-- so are two walks
pub leads_then : {N : Type 0} (edges : N → List N) (r s t : N) → Leads edges r s → Leads edges s t → Leads edges r t
leads_then edges r s t h k = (h.0 ++ k.0, walk_append edges h.0 k.0 r s t h.1 k.1)

pub walk_of_path : {N : Type 0} (edges : N → List N) (cs : List ℕ) (held : List N) (r s : N)
    → IsPath edges held r cs s → IsGraphWalk edges r cs s
walk_of_path edges [] held r s p = p.1
walk_of_path edges (c ∷ cs) held r s p = (p.1.0, p.1.1, walk_of_path edges cs (r ∷ held) p.1.0 s p.1.2)

module _ {N : Type 0} {eq : N → N → Bool} (dec : (a b : N) → Decides (eq a b) (a ≡ b)) (edges : N → List N) where
  none_held : (t : N) → ¬ (Contains [] t)
  none_held t w = let h : In t [] = Contains_In dec [] t w in let k : Some t ≡ None = sym h.1 in cc

  apart : (held : List N) (r t : N) → eq r t ≡ false → ¬ (Contains held t) → ¬ (Contains (r ∷ held) t)
  apart held r t z n w = In_cases t r held (Contains_In dec (r ∷ held) t w)
      (λ e. true≢false (sym ((dec r t).1 (sym e)) ∙ z))
      (λ k. n (In_Contains dec held t k))

  -- after a step from the end of a path there is a path to its target
  one_more : (cs : List ℕ) (held : List N) (r s t : N) → IsPath edges held r cs s → In t (edges s)
      → ¬ (Contains held t) → (ds : List ℕ) × IsPath edges held r ds t
  one_more [] held r s t p e n = by_test (eq r t)
      (λ z. ([], (p.0, sym ((dec r t).0 z))))
      (λ z. let f : In t (edges r) = subst (λ x. In t (edges x)) p.1 e in
      (f.0 ∷ [], (p.0, (t, f.1, (apart held r t z n, refl)))))
  one_more (c ∷ cs) held r s t p e n = by_test (eq r t)
      (λ z. ([], (p.0, sym ((dec r t).0 z))))
      (λ z. let q : (ds : List ℕ) × IsPath edges (r ∷ held) p.1.0 ds t
      = one_more cs (r ∷ held) p.1.0 s t p.1.2 e (apart held r t z n) in
      (c ∷ q.0, (p.0, (p.1.0, p.1.1, q.1))))

  further : (cs : List ℕ) (r s t : N) → (ds : List ℕ) × IsPath edges [] r ds s → IsGraphWalk edges s cs t
      → (ds : List ℕ) × IsPath edges [] r ds t
  further [] r s t p w = subst (λ x. (ds : List ℕ) × IsPath edges [] r ds x) (sym w) p
  further (c ∷ cs) r s t p w =
      further cs r w.0 t (one_more p.0 [] r s w.0 p.1 (c, w.1) (none_held w.0)) w.2

  -- where a walk leads, a loop-free path leads
  pub path_of_walk : (r s : N) → Leads edges r s → (ds : List ℕ) × IsPath edges [] r ds s
  path_of_walk r s h = further h.0 r r s ([], (none_held r, refl)) h.1
