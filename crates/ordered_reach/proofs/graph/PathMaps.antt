-- Paths in a graph are, with the same choices, the paths in its image under an injective map, and in a graph that
-- agrees with it.
-- Main statements: path_map, path_unmap, path_agree.
-- Used by: runs that move in a text, and runs over the beginning of a text.
-- Idea: induction on the choices; a visited node and its image are visited together, since the map is injective.
use Rattle.std.specs.Bool.{Decides}
use Rattle.std.specs.Prelude.{Contains, option_map, slice_get}
use Rattle.std.proofs.Common.{◌≡◌, ◌∙◌, ◌∷◌, ℕ, Bool, List, None, Some, [], ap, map, refl, subst, sym}
use Rattle.std.proofs.lemmas.Option.{slice_get-map}
use Rattle.ordered_reach.specs.Paths.{IsPath}
use Rattle.ordered_reach.proofs.lists.Elements.{Contains_In, In, In_Contains, In_map, In_map_from}
use Rattle.ordered_reach.proofs.Cases.{by_option, some_injective}

-- a map of the nodes of one graph to those of another, and of their edges
module _ {N M : Type 0} {eq : N → N → Bool} {eq' : M → M → Bool} (dec : (a b : N) → Decides (eq a b) (a ≡ b))
    (dec' : (a b : M) → Decides (eq' a b) (a ≡ b))
    (f : N → M) (one : (a b : N) → f a ≡ f b → a ≡ b) (es : N → List N) (fs : M → List M)
    (same : (p : N) → fs (f p) ≡ map f (es p)) where
  not_there : (held : List N) (r : N) → ¬ (Contains held r) → ¬ (Contains (map f held) (f r))
  not_there held r n w =
      n (In_Contains dec held r (In_map_from f (f r) held (Contains_In dec' (map f held) (f r) w)
      (λ y m e. subst (λ z. In z held) (sym (one r y e)) m)))

  not_here : (held : List N) (r : N) → ¬ (Contains (map f held) (f r)) → ¬ (Contains held r)
  not_here held r n w = n (In_Contains dec' (map f held) (f r) (In_map f r held (Contains_In dec held r w)))

  pub path_map : (cs : List ℕ) (held : List N) (r q : N) → IsPath es held r cs q → IsPath fs (map f held) (f r) cs (f q)
  path_map [] held r q p = (not_there held r p.0, ap f p.1)
  path_map (c ∷ cs) held r q p = (
    not_there held r p.0,
    (
      f p.1.0,
      ap (λ l. slice_get l c) (same r) ∙ slice_get-map f (es r) c
          ∙ ap (λ o. option_map f o) p.1.1,
      path_map cs (r ∷ held) p.1.0 q p.1.2,
    ),
  )

  pub path_unmap : (cs : List ℕ) (held : List N) (r : N) (z : M) → IsPath fs (map f held) (f r) cs z
      → (q : N) × (z ≡ f q) × IsPath es held r cs q
  path_unmap [] held r z p = (r, p.1, (not_here held r p.0, refl))
  path_unmap (c ∷ cs) held r z p =
      let e : option_map f (slice_get (es r) c) ≡ Some p.1.0
      = sym (ap (λ l. slice_get l c) (same r) ∙ slice_get-map f (es r) c) ∙ p.1.1 in
      by_option (slice_get (es r) c)
      (λ n. absurd (let k : None ≡ Some p.1.0 = subst (λ o. option_map f o ≡ Some p.1.0) n e in cc))
      (λ t n. let k : f t ≡ p.1.0 = some_injective (f t) p.1.0 (subst (λ o. option_map f o ≡ Some p.1.0) n e) in
      let s : (q : N) × (z ≡ f q) × IsPath es (r ∷ held) t cs q
      = path_unmap cs (r ∷ held) t z (subst (λ y. IsPath fs (map f (r ∷ held)) y cs z) (sym k) p.1.2) in
      (s.0, s.1, (not_here held r p.0, (t, n, s.2))))

-- a path in one graph is one in another where its edges are edges with the same numbers, from its end backward
pub path_agree : {N : Type 0} (edges others : N → List N) (Q : N → Type 0)
    → ((p t : N) (c : ℕ) → slice_get (edges p) c ≡ Some t → Q t → Q p × (slice_get (others p) c ≡ Some t))
    → (cs : List ℕ) (held : List N) (r q : N) → Q q → IsPath edges held r cs q → Q r × IsPath others held r cs q
path_agree edges others Q step [] held r q k p = (subst Q p.1 k, p)
path_agree edges others Q step (c ∷ cs) held r q k p =
    let t = path_agree edges others Q step cs (r ∷ held) p.1.0 q k p.1.2 in
    let e = step r p.1.0 c p.1.1 t.0 in (e.0, (p.0, (p.1.0, e.1, t.1)))
