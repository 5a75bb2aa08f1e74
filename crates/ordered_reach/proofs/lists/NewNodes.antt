-- Sets as tests, and the list `fresh` of the nodes that are new to a set.
-- Main statements: fresh-append, member-fresh, fresh-filter, flat_map-agree.
-- Used by: ClosedSets, and all that compares two searches.
-- Idea: what is new after a list is what is new to the union of the set and the list.
use Rattle.ordered_reach.proofs.Common.{[], ap, arith, Bool, by_test, Decides, false, false≢true, filter, flat_map, fresh, fun_ext, joined, List, member, not, or_left, or_right, refl, sym, true, with_node, ◌&&◌, ◌++◌, ◌||◌, ◌∙◌, ◌∷◌, ◌≡◌}

module _ {N : Type 0} {eq : N → N → Bool} (dec : (a b : N) → Decides (eq a b) (a ≡ b)) where
  pub eq-self : (x : N) → eq x x ≡ true
  eq-self x = (dec x x).1 refl

  pub member-append : (xs ys : List N) (x : N) → member eq (xs ++ ys) x ≡ (member eq xs x || member eq ys x)
  member-append [] ys x = refl
  member-append (y ∷ xs) ys x = grind (arith, member-append xs ys x)

  pub fresh-same : (s t : N → Bool) (xs : List N) → ((x : N) → s x ≡ t x) → fresh eq s xs ≡ fresh eq t xs
  fresh-same s t xs h = ap (λ u. fresh eq u xs) (fun_ext h)

  -- the new nodes of one list after another
  pub fresh-append : (seen : N → Bool) (xs ys : List N)
      → fresh eq seen (xs ++ ys) ≡ fresh eq seen xs ++ fresh eq (joined (member eq xs) seen) ys
  fresh-append seen [] ys = refl
  fresh-append seen (x ∷ xs) ys = by_test (seen x)
      (λ e. let same : joined (member eq (x ∷ xs)) seen ≡ joined (member eq xs) seen =
      fun_ext (λ y. grind (arith, dec x y)) in rw (e, same, fresh-append seen xs ys))
      (λ e. let turn : joined (member eq (x ∷ xs)) seen ≡ joined (member eq xs) (with_node eq seen x) =
      fun_ext (λ y. grind arith) in rw (e, turn, fresh-append (with_node eq seen x) xs ys))

  -- a new node is in the list, and was not seen
  pub member-fresh : (seen : N → Bool) (xs : List N) (y : N)
      → member eq (fresh eq seen xs) y ≡ (member eq xs y && not (seen y))
  member-fresh seen [] y = refl
  member-fresh seen (x ∷ xs) y = grind (arith, dec, member-fresh seen xs y, member-fresh (with_node eq seen x) xs y)

  -- more seen nodes are dropped from the new ones
  pub fresh-joined : (v seen : N → Bool) (xs : List N)
      → fresh eq (joined v seen) xs ≡ filter (λ x. not (v x)) (fresh eq seen xs)
  fresh-joined v seen [] = refl
  fresh-joined v seen (x ∷ xs) =
      let turn : joined v (with_node eq seen x) ≡ with_node eq (joined v seen) x = fun_ext (λ y. grind arith) in
      let same : v x ≡ true → joined v seen ≡ with_node eq (joined v seen) x =
      λ e. fun_ext (λ y. grind (arith, dec x y)) in
      grind (arith, same, fresh-joined v seen xs, (rw turn at (fresh-joined v (with_node eq seen x) xs)))

  -- the new nodes, with some nodes left out
  fresh-left_out : (v seen : N → Bool) (xs : List N)
      → fresh eq seen (filter (λ x. not (v x)) xs) ≡ fresh eq (joined v seen) xs
  fresh-left_out v seen [] = refl
  fresh-left_out v seen (x ∷ xs) =
      let turn : joined v (with_node eq seen x) ≡ with_node eq (joined v seen) x = fun_ext (λ y. grind arith) in
      grind (arith, fresh-left_out v seen xs, (rw turn at (fresh-left_out v (with_node eq seen x) xs)))

  -- dropping seen nodes first changes nothing
  pub fresh-filter : (v seen : N → Bool) (xs : List N) → ((x : N) → v x ≡ true → seen x ≡ true)
      → fresh eq seen (filter (λ x. not (v x)) xs) ≡ fresh eq seen xs
  fresh-filter v seen xs h = fresh-left_out v seen xs ∙ fresh-same _ _ xs (λ x. grind (arith, h x))

  pub filter_none : (v : N → Bool) (xs : List N) → ((x : N) → member eq xs x ≡ true → v x ≡ true)
      → filter (λ x. not (v x)) xs ≡ []
  filter_none v [] h = refl
  filter_none v (x ∷ xs) h = grind (arith, h x, eq-self x, filter_none v xs (λ y m. h y (or_right _ _ m)))

  -- nothing is new where all was seen
  pub fresh_none : (seen : N → Bool) (xs : List N) → ((x : N) → member eq xs x ≡ true → seen x ≡ true)
      → fresh eq seen xs ≡ []
  fresh_none seen xs h = sym (fresh-filter seen seen xs (λ x m. m)) ∙ ap (λ l. fresh eq seen l) (filter_none seen xs h)

  -- a search from each node of a list needs each node once
  fresh-flat_map_fresh : (f : N → List N) (seen t : N → Bool) (xs : List N)
      → ((x y : N) → t x ≡ true → member eq (f x) y ≡ true → seen y ≡ true)
      → fresh eq seen (flat_map f (fresh eq t xs)) ≡ fresh eq seen (flat_map f xs)
  fresh-flat_map_fresh f seen t [] h = refl
  fresh-flat_map_fresh f seen t (x ∷ xs) h = by_test (t x)
      (λ e. let same : joined (member eq (f x)) seen ≡ seen = fun_ext (λ y. grind (arith, h x y e)) in
      rw (e, fresh-append seen (f x) (flat_map f xs), fresh_none seen (f x) (λ y m. h x y e m), same)
      (fresh-flat_map_fresh f seen t xs h))
      (λ e. let new = fresh-flat_map_fresh f (joined (member eq (f x)) seen) (with_node eq t x) xs
      (λ z y m k. grind (arith, dec x z, h z y)) in
      rw (e, fresh-append seen (f x) (flat_map f xs), fresh-append seen (f x) (flat_map f (fresh eq _ xs)), new))

  pub fresh-flat_map : (f : N → List N) (seen : N → Bool) (xs : List N)
      → fresh eq seen (flat_map f (fresh eq (λ x. false) xs)) ≡ fresh eq seen (flat_map f xs)
  fresh-flat_map f seen xs = fresh-flat_map_fresh f seen (λ x. false) xs (λ x y m k. absurd (false≢true m))

  pub filter-fresh : (v seen : N → Bool) (xs : List N)
      → filter (λ x. not (v x)) (fresh eq seen xs) ≡ fresh eq seen (filter (λ x. not (v x)) xs)
  filter-fresh v seen xs = sym (fresh-joined v seen xs) ∙ sym (fresh-left_out v seen xs)

  pub member-filter : (p : N → Bool) (xs : List N) (x : N) → member eq (filter p xs) x ≡ true → member eq xs x ≡ true
  member-filter p [] x m = m
  member-filter p (y ∷ xs) x m = grind (arith, member-filter p xs x)

  pub fresh-fresh : (seen more : N → Bool) (xs : List N) → ((x : N) → more x ≡ true → seen x ≡ true)
      → fresh eq more (fresh eq seen xs) ≡ fresh eq seen xs
  fresh-fresh seen more [] h = refl
  fresh-fresh seen more (x ∷ xs) h =
      let new = fresh-fresh (with_node eq seen x) (with_node eq more x) xs (λ y z. grind (arith, h y)) in
      grind (arith, h x, fresh-fresh seen more xs h, new)

  -- two functions that agree at each element
  pub flat_map-agree : {B : Type 0} (f g : N → List B) (xs : List N) → ((x : N) → member eq xs x ≡ true → f x ≡ g x)
      → flat_map f xs ≡ flat_map g xs
  flat_map-agree f g [] h = refl
  flat_map-agree f g (x ∷ xs) h =
      grind (arith, h x, eq-self x, flat_map-agree f g xs (λ y m. h y (or_right _ _ m)))

  -- an element of a `flat_map`
  pub member-flat_map : (f : N → List N) (xs : List N) (x y : N) → member eq xs x ≡ true → member eq (f x) y ≡ true
      → member eq (flat_map f xs) y ≡ true
  member-flat_map f [] x y m k = absurd (false≢true m)
  member-flat_map f (z ∷ xs) x y m k =
      grind (arith, dec z x, member-append (f z) (flat_map f xs) y, member-flat_map f xs x y)

  -- the part of a `flat_map` that contains an element
  pub flat_map-member : {P : Type 0} (f : N → List N) (xs : List N) (y : N) → member eq (flat_map f xs) y ≡ true
      → ((x : N) → member eq xs x ≡ true → member eq (f x) y ≡ true → P) → P
  flat_map-member f [] y m k = absurd (false≢true m)
  flat_map-member f (z ∷ xs) y m k = by_test (member eq (f z) y)
      (λ q. k z (or_left _ _ (eq-self z)) q)
      (λ q. flat_map-member f xs y (grind (arith, member-append (f z) (flat_map f xs) y))
      (λ x n l. k x (or_right _ _ n) l))
