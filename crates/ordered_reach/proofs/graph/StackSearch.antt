-- A depth-first search with a stack, step by step.
-- Main statements: ordered-append, closure-held, closure-new.
-- Used by: RootByRoot, and the loop of an epsilon closure.
-- Idea: a visited node is skipped; a new one is listed, and its edges go before the other pending nodes.
use Rattle.ordered_reach.proofs.Common.{[], ap, append_assoc, arith, Bool, Decides, edge_count, ends, false, flat_map, flat_map-append, fun_ext, joined, length-append, List, member, none_held, or_left, ordered, search_tries, suc, true, with_node, ℕ, ◌++◌, ◌∷◌, ◌≡◌, closure}
use Rattle.ordered_reach.proofs.graph.ClosedSets.{IsEnough, IsEnough-from_none, ends-held, roots_find_closed, fresh-ends_new, fresh-held}
use Rattle.ordered_reach.proofs.lists.NewNodes.{fresh-append, member-append, member-fresh}

module _ {N : Type 0} {eq : N → N → Bool} (dec : (a b : N) → Decides (eq a b) (a ≡ b)) where
  pub member-push : (met : List N) (r : N) → member eq (met ++ r ∷ []) ≡ with_node eq (member eq met) r
  member-push met r = fun_ext (λ x. grind (arith, member-append dec met (r ∷ []) x))

  module _ (edges : N → List N) (n : ℕ) (enough : (x : N) → IsEnough eq edges n none_held x) where
    ordered-held : (met : List N) (r : N) (rs : List N) → member eq met r ≡ true
        → ordered eq edges n (member eq met) (r ∷ rs) ≡ ordered eq edges n (member eq met) rs
    ordered-held met r rs e = rw (ends-held dec edges n (member eq met) r e)

    ordered-new : (met : List N) (r : N) (rs : List N) → member eq met r ≡ false
        → ordered eq edges n (member eq met) (r ∷ rs) ≡ r ∷ ordered eq edges n (member eq (met ++ r ∷ []))
        (edges r ++ rs)
    ordered-new met r rs e =
        rw (member-push met r) (fresh-ends_new dec edges n (member eq met) r rs e
        (IsEnough-from_none dec edges n (member eq met) r (enough r)))

    pub closure-held : (met : List N) (r : N) (rs : List N) → member eq met r ≡ true
        → closure eq edges n met (r ∷ rs) ≡ closure eq edges n met rs
    closure-held met r rs e = ap (λ l. met ++ l) (ordered-held met r rs e)

    pub closure-new : (met : List N) (r : N) (rs : List N) → member eq met r ≡ false
        → closure eq edges n met (r ∷ rs) ≡ closure eq edges n (met ++ r ∷ []) (edges r ++ rs)
    closure-new met r rs e = rw (append_assoc met (r ∷ [])) (ap (λ l. met ++ l) (ordered-new met r rs e))

    pub tries-held : (met : List N) (r : N) (rs : List N) → member eq met r ≡ true
        → search_tries eq edges n met (r ∷ rs) ≡ suc (search_tries eq edges n met rs)
    tries-held met r rs e = omega (arith, ap (λ l. edge_count edges l) (ordered-held met r rs e))

    pub tries-new : (met : List N) (r : N) (rs : List N) → member eq met r ≡ false
        → search_tries eq edges n met (r ∷ rs) ≡ suc (search_tries eq edges n (met ++ r ∷ []) (edges r ++ rs))
    tries-new met r rs e =
        omega (arith, ap (λ l. edge_count edges l) (ordered-new met r rs e), length-append (edges r) rs)

    -- nodes reached from earlier roots count as visited for the later ones
    pub ordered-append : (held : N → Bool) (rs ss : List N)
        → ordered eq edges n held (rs ++ ss) ≡ ordered eq edges n held rs ++ ordered eq edges n
        (joined (member eq (ordered eq edges n held rs)) held) ss
    ordered-append held rs ss =
        let A : List N = flat_map (ends eq edges n held) rs in
        let same : joined (member eq A) held ≡ joined (member eq (ordered eq edges n held rs)) held =
        fun_ext (λ x. grind (arith, member-fresh dec held A x)) in
        let rest = fresh-held dec edges n (member eq A) held (joined (member eq A) held) ss
        (roots_find_closed dec edges n held rs (λ r. IsEnough-from_none dec edges n held r (enough r)))
        (λ x m. or_left (member eq A x) (held x) m) in
        rw (flat_map-append (ends eq edges n held) rs ss, fresh-append dec held A _, rest, same)
