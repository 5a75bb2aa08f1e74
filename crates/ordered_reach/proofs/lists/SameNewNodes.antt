-- Lists with the same new nodes in the same order, apart from the nodes of a set.
-- Main statements: Alike, Alike-flat_map, Alike-front.
-- Used by: RepeatedSearch.
-- Idea: the relation is kept by concatenation, so it can be shown root by root.
use Rattle.ordered_reach.proofs.Common.{fun_ext, [], ap, append-nil, arith, Bool, Decides, false, flat_map, fresh, joined, List, member, or_left, or_right, refl, true, ◌++◌, ◌||◌, ◌∷◌, ◌≡◌}
use Rattle.ordered_reach.proofs.lists.NewNodes.{eq-self, fresh-append, fresh_none, member-fresh}

-- the lists have the same new nodes in the same order, for every seen set that contains c
abbrev pub Alike : {N : Type 0} → (N → N → Bool) → (N → Bool) → List N → List N → Type 0
Alike {N} eq c xs ys = (seen : N → Bool) → ((x : N) → c x ≡ true → seen x ≡ true) → fresh eq seen xs ≡ fresh eq seen ys

module _ {N : Type 0} {eq : N → N → Bool} (dec : (a b : N) → Decides (eq a b) (a ≡ b)) where
  Alike-member : (c : N → Bool) (xs ys : List N) → Alike eq c xs ys → (x : N) → c x ≡ false
      → member eq xs x ≡ member eq ys x
  Alike-member c xs ys h x e =
      let same = ap (λ l. member eq l x) (h c (λ y m. m)) in
      grind (arith, same, member-fresh dec c xs x, member-fresh dec c ys x)

  Alike-append : (c : N → Bool) (xs xs' ys ys' : List N) → Alike eq c xs xs' → Alike eq c ys ys'
      → Alike eq c (xs ++ ys) (xs' ++ ys')
  Alike-append c xs xs' ys ys' h k seen s =
      let same : joined (member eq xs) seen ≡ joined (member eq xs') seen =
      fun_ext (λ x. grind (arith, s x, Alike-member c xs xs' h x)) in
      rw (fresh-append dec seen xs ys, fresh-append dec seen xs' ys', h seen s, same)
      (ap (λ l. fresh eq seen xs' ++ l) (k _ (λ x m. or_right (member eq xs' x) (seen x) (s x m))))

  pub Alike-flat_map : (c : N → Bool) (f g : N → List N) (xs : List N)
      → ((x : N) → member eq xs x ≡ true → Alike eq c (f x) (g x)) → Alike eq c (flat_map f xs) (flat_map g xs)
  Alike-flat_map c f g [] h = λ seen s. refl
  Alike-flat_map c f g (x ∷ xs) h =
      Alike-append c (f x) (g x) (flat_map f xs) (flat_map g xs)
      (h x (or_left (eq x x) (member eq xs x) (eq-self dec x)))
      (Alike-flat_map c f g xs (λ y m. h y (or_right (eq x y) (member eq xs y) m)))

  -- the elements of the first list add nothing after it
  pub Alike-front : (c : N → Bool) (xs ys : List N) → ((x : N) → member eq ys x ≡ true → (member eq xs x || c x) ≡ true)
      → Alike eq c (xs ++ ys) xs
  Alike-front c xs ys h seen s =
      let none = fresh_none dec (joined (member eq xs) seen) ys (λ x m. grind (arith, s x, h x m)) in
      rw (fresh-append dec seen xs ys, none) (append-nil (fresh eq seen xs))
