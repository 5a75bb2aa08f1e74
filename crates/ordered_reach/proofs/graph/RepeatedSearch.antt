-- A search that is repeated, under more edges, from what an earlier search listed.
-- Main statements: IsRepeatable, ordered_redone_without.
-- Used by: SameSearch, CutLists, Automata.
-- Idea: what is new from a listed node is reached from its root, too, and the root comes first.
use Rattle.ordered_reach.proofs.Common.{[], without, append-nil, arith, Bool, by_test, Decides, ends, false, false≢true, flat_map, fresh, fun_ext, joined, List, member, none_held, not, or_left, or_right, ordered, refl, suc, sym, true, with_node, zero, ℕ, ◌||◌, ◌∙◌, ◌∷◌, ◌≡◌, or_false_left}
use Rattle.ordered_reach.proofs.lists.SameNewNodes.{Alike, Alike-flat_map, Alike-front}
use Rattle.ordered_reach.proofs.graph.ClosedSets.{ends_behind, IsClosed, IsEnough, IsEnough-more_fuel, ends-enough, ends-held, fresh-held, ends_closed, ends_self, ends_within}
use Rattle.ordered_reach.proofs.lists.Pieces.{filter-flat_map, flat_map-flat_map}
use Rattle.ordered_reach.proofs.lists.NewNodes.{eq-self, filter-fresh, flat_map-member, fresh-flat_map, fresh-joined, fresh_none, member-filter}

-- the search may be repeated under more edges: the nodes of cap have one edge, the same one under
-- both, and the fuel is enough
pub record IsRepeatable {N : Type 0} (eq : N → N → Bool) (edges more : N → List N) (n : ℕ) (cap : N → Bool)
    (next : N → N) : Type 0 where
  pub fewer : (x y : N) → member eq (edges x) y ≡ true → member eq (more x) y ≡ true
  pub one : (x : N) → cap x ≡ true → edges x ≡ next x ∷ []
  pub one_more : (x : N) → cap x ≡ true → more x ≡ next x ∷ []
  pub enough : (x : N) → IsEnough eq edges n none_held x
  pub enough_more : (x : N) → IsEnough eq more n none_held x

module _ {N : Type 0} {eq : N → N → Bool} (dec : (a b : N) → Decides (eq a b) (a ≡ b)) where
  -- a node of cap, whose one edge is to next, lists itself and what its successor lists
  ends_skipped : (more : N → List N) (cap : N → Bool) (next : N → N) → ((x : N) → cap x ≡ true → more x ≡ next x ∷ [])
      → (n : ℕ) (r : N) → cap r ≡ true → eq r (next r) ≡ false → IsEnough eq more n none_held r
      → Alike eq cap (ends eq more n none_held (next r)) (ends eq more n none_held r)
  ends_skipped more cap next one zero r c d a seen s = absurd (false≢true a)
  ends_skipped more cap next one (suc k) r c d a seen s =
      let t : N = next r in
      let h : N → Bool = with_node eq none_held r in
      let g : N → Bool = with_node eq none_held t in
      let below : IsEnough eq more k h t = a refl t (grind (arith, one r c, eq-self dec t)) in
      let closed : IsClosed eq more (eq r) g = λ x y p l.
      let z : r ≡ x = (dec r x).0 p in grind (arith, (rw (one r c) at (rw (← z) at l))) in
      let turn : joined (eq r) g ≡ with_node eq h t = fun_ext (λ y. grind arith) in
      let behind : (u : N → Bool) → u r ≡ true
      → fresh eq u (ends_behind eq more k none_held t) ≡ fresh eq u (ends_behind eq more k h t) =
      λ u q. rw (← turn) (fresh-held dec more k (eq r) g u (more t) closed
      (λ x p. let z : r ≡ x = (dec r x).0 p in rw (← z) q)) in
      let alone : fresh eq seen (ends eq more (suc k) none_held t) ≡ fresh eq seen (ends eq more (suc k) h t) =
      rw d (grind (arith, behind seen (s r c), behind (with_node eq seen t), s r c)) in
      let same = ends-enough dec more (suc k) k h t (IsEnough-more_fuel dec more k h t below) below in
      alone ∙ rw (same, s r c, one r c, append-nil (ends eq more k h t)) refl

  module _ (edges more : N → List N) (n : ℕ) (cap : N → Bool) (next : N → N)
      (is : IsRepeatable eq edges more n cap next) where
    -- a node reached under more edges from what r reaches is reached under them from r
    ends_redone_within : (k : ℕ) (r x y : N) (held : N → Bool)
        → member eq (ends eq edges k held r) x ≡ true → member eq (ends eq more n none_held x) y ≡ true
        → member eq (ends eq more n none_held r) y ≡ true
    ends_redone_within k r x y held m l =
        let v : N → Bool = member eq (ends eq more n none_held r) in
        let c : IsClosed eq more v none_held = ends_closed dec more n none_held r (is.enough_more r) in
        let x_in : v x ≡ true = ends_within dec edges k v none_held held r x (λ p q u w. c p q u (is.fewer p q w))
        (λ p f. absurd (false≢true f)) (ends_self dec more n none_held r (is.enough_more r)) m in
        ends_within dec more n v none_held none_held x y c (λ p f. f) (or_left (v x) false x_in) l

    -- what a search lists without the nodes of cap reaches the same other nodes, in the same order
    ends_redone_without : (k : ℕ) (held : N → Bool) (r : N) → IsEnough eq edges k held r → held r ≡ false
        → ((x : N) → held x ≡ true → cap x ≡ true)
        → ((x : N) → held x ≡ true → (eq r (next x) || held (next x)) ≡ true)
        → Alike eq cap (flat_map (ends eq more n none_held) (without cap (ends eq edges k held r)))
        (ends eq more n none_held r)
    ends_redone_without zero held r a e c d seen s = absurd (false≢true (sym e ∙ a))
    ends_redone_without (suc k) held r a e c d seen s =
        let f : N → List N = ends eq more n none_held in
        let h : N → Bool = with_node eq held r in
        let X : List N = ends_behind eq edges k held r in
        by_test (cap r)
        (λ q. let caps : (x : N) → h x ≡ true → cap x ≡ true = λ x l. grind (arith, dec r x, c x) in
        rw (e, q, is.one r q, append-nil (ends eq edges k h (next r))) (by_test (h (next r))
        (λ z. let loop : IsClosed eq more h none_held = λ x y l w.
        grind (arith, dec r x, dec (next x) y, d x, (rw (is.one_more x (caps x l)) at w)) in
        rw (ends-held dec edges k h (next r) z) (sym (fresh_none dec seen (f r) (λ x l. s x (caps x
        (ends_within dec more n h none_held none_held r x loop (λ y w. w) (grind (arith, eq-self dec r)) l))))))
        (λ z. ends_redone_without k h (next r) (a e (next r) (grind (arith, is.one r q, eq-self dec (next r)))) z caps
        (λ x l. grind (arith, dec r x, d x, eq-self dec (next x))) seen s
        ∙ ends_skipped more cap next is.one_more n r q (or_false_left (eq r (next r)) (held (next r)) z)
        (is.enough_more r) seen s)))
        (λ q. rw (e, q) (Alike-front dec cap (f r) (flat_map f (without cap X))
        (λ y l. or_left (member eq (f r) y) (cap y) (flat_map-member dec f (without cap X) y l
        (λ x z w. ends_redone_within (suc k) r x y held
        (rw e (or_right (eq r x) (member eq X x) (member-filter dec (λ x. not (cap x)) X x z))) w)))
        seen s))

    -- the search repeated from what an earlier one listed, both without the nodes of cap
    pub ordered_redone_without : (roots : List N)
        → without cap (ordered eq more n none_held (without cap (ordered eq edges n none_held roots)))
        ≡ without cap (ordered eq more n none_held roots)
    ordered_redone_without roots =
        let f : N → List N = ends eq more n none_held in
        let g : N → List N = ends eq edges n none_held in
        let left = fresh-joined dec cap none_held (flat_map (λ r. flat_map f (without cap (g r))) roots) in
        let right = fresh-joined dec cap none_held (flat_map f roots) in
        let new = fresh-flat_map dec f none_held (without cap (flat_map g roots)) in
        rw (filter-fresh dec cap none_held (flat_map g roots), new, filter-flat_map, flat_map-flat_map, ← left, ← right)
        (Alike-flat_map dec cap _ f roots (λ r l. ends_redone_without n none_held r (is.enough r) refl
        (λ x z. absurd (false≢true z)) (λ x z. absurd (false≢true z)))
        (joined cap none_held) (λ x m. or_left (cap x) false m))
