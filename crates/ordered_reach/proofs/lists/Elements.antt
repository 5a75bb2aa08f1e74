-- Elements of lists as indices, and their order in the list.
-- Main statements: In, same_by_order, In_flat_map, In_Contains, Contains_In.
-- Used by: PathLists, LeastPaths, UniqueOrder, the folders runs and walks, and the crates above.
-- Idea: two lists with the same elements in the same strict order are equal (same_by_order).
use Rattle.ordered_reach.proofs.Common.{[], option_map, ap, arith, Bool, by_test, Contains, Decides, false, false≢true, List, map, member, None, or_left, or_right, refl, slice_get, Some, suc, sym, true, zero, ℕ, ◌++◌, ◌<◌, ◌∙◌, ◌∷◌, ◌≡◌, All, take, flat_map, get_or_from_slice_get, slice_get-get_or, slice_get-map, slice_get_within, All-cons, All-nil}
use Rattle.ordered_reach.proofs.lists.NewNodes.{eq-self}

-- an element of a list
abbrev pub In : {A : Type 0} → A → List A → Type 0
In x xs = (i : ℕ) × (slice_get xs i ≡ Some x)

pub In_head : {A : Type 0} (x : A) (xs : List A) → In x (x ∷ xs)
In_head x xs = (0, refl)

pub In_tail : {A : Type 0} (x y : A) (xs : List A) → In x xs → In x (y ∷ xs)
In_tail x y xs h = (suc h.0, h.1)

pub In_none : {A P : Type 0} (x : A) → In x [] → P
In_none x h = absurd (let k : Some x ≡ None = sym h.1 in cc)

pub In_cases : {A P : Type 0} (x y : A) (xs : List A) → In x (y ∷ xs) → (x ≡ y → P) → (In x xs → P) → P
In_cases {A} {P} x y xs h f g = go h.0 h.1
  where
    go : (i : ℕ) → slice_get (y ∷ xs) i ≡ Some x → P
    go zero e = f (let k : y ≡ x = cc in sym k)
    go (suc i) e = g (i, e)

pub In_append_left : {A : Type 0} (x : A) (xs ys : List A) → In x xs → In x (xs ++ ys)
In_append_left x [] ys h = In_none x h
In_append_left x (y ∷ xs) ys h =
    In_cases x y xs h (λ e. rw e (In_head y (xs ++ ys))) (λ k. In_tail x y (xs ++ ys) (In_append_left x xs ys k))

pub In_append_right : {A : Type 0} (x : A) (xs ys : List A) → In x ys → In x (xs ++ ys)
In_append_right x [] ys h = h
In_append_right x (y ∷ xs) ys h = In_tail x y (xs ++ ys) (In_append_right x xs ys h)

pub In_append_cases : {A P : Type 0} (x : A) (xs ys : List A) → In x (xs ++ ys) → (In x xs → P) → (In x ys → P) → P
In_append_cases x [] ys h f g = g h
In_append_cases x (y ∷ xs) ys h f g = In_cases x y (xs ++ ys) h
    (λ e. f (rw e (In_head y xs)))
    (λ k. In_append_cases x xs ys k (λ l. f (In_tail x y xs l)) g)

pub In_map : {A B : Type 0} (g : A → B) (x : A) (xs : List A) → In x xs → In (g x) (map g xs)
In_map g x xs h = (h.0, slice_get-map g xs h.0 ∙ ap (λ o. option_map g o) h.1)

pub In_map_from : {A B P : Type 0} (g : A → B) (z : B) (xs : List A) → In z (map g xs)
    → ((x : A) → In x xs → z ≡ g x → P) → P
In_map_from g z [] h f = In_none z h
In_map_from g z (y ∷ xs) h f = In_cases z (g y) (map g xs) h
    (λ e. f y (In_head y xs) e)
    (λ k. In_map_from g z xs k (λ x l e. f x (In_tail x y xs l) e))

pub In_take_one : {A : Type 0} (ps : List A) (x : A) → In x (take 1 ps) → In x ps
In_take_one [] x h = h
In_take_one (y ∷ ps) x h = In_append_left x (y ∷ []) ps h

pub In_flat_map : {A B : Type 0} (f : A → List B) (ys : List A) (y : A) (x : B) → In y ys → In x (f y)
    → In x (flat_map f ys)
In_flat_map f [] y x h k = In_none y h
In_flat_map f (z ∷ ys) y x h k = In_cases y z ys h
    (λ e. In_append_left x (f z) (flat_map f ys) (rw e at k))
    (λ l. In_append_right x (f z) (flat_map f ys) (In_flat_map f ys y x l k))

pub In_flat_map_from : {A B P : Type 0} (f : A → List B) (ys : List A) (x : B) → In x (flat_map f ys)
    → ((y : A) → In y ys → In x (f y) → P) → P
In_flat_map_from f [] x h g = In_none x h
In_flat_map_from f (z ∷ ys) x h g = In_append_cases x (f z) (flat_map f ys) h
    (λ k. g z (In_head z ys) k)
    (λ k. In_flat_map_from f ys x k (λ y l m. g y (In_tail y z ys l) m))

pub flat_map_same : {A B : Type 0} (f g : A → List B) (xs : List A) → ((x : A) → In x xs → f x ≡ g x)
    → flat_map f xs ≡ flat_map g xs
flat_map_same f g [] h = refl
flat_map_same f g (x ∷ xs) h =
    cc (h x (In_head x xs), flat_map_same f g xs (λ y k. h y (In_tail y x xs k)))

pub Contains_from_In : {A : Type 0} (xs : List A) (x : A) → In x xs → Contains xs x
Contains_from_In xs x h = (h.0, slice_get_within xs h.0 x h.1, get_or_from_slice_get xs h.0 x x h.1)

pub In_from_Contains : {A : Type 0} (xs : List A) (x : A) → Contains xs x → In x xs
In_from_Contains xs x h = (h.0, slice_get-get_or xs h.0 x h.1 ∙ ap Some h.2)

pub All_at : {A : Type 0} (P : A → Type 0) (xs : List A) → All P xs → (x : A) → In x xs → P x
All_at P xs h x k = rw (get_or_from_slice_get xs k.0 x x k.1) at (h k.0 x (slice_get_within xs k.0 x k.1))

-- where no element is at two indices in order, each has one index
pub once_by_order : {A : Type 0} (xs : List A)
    → ((i j : ℕ) (s : A) → i < j → slice_get xs i ≡ Some s → slice_get xs j ≡ Some s → ⊥)
    → (i j : ℕ) (s : A) → slice_get xs i ≡ Some s → slice_get xs j ≡ Some s → i ≡ j
once_by_order xs h i j s a b = grind (arith, h i j s, h j i s)

-- two lists with the same elements in the same strict order are equal
pub same_by_order : {A : Type 0} (R : A → A → Type 0) → ((x y : A) → R x y → R y x → ⊥) → (xs ys : List A)
    → ((x : A) → In x xs → In x ys) → ((x : A) → In x ys → In x xs)
    → ((i j : ℕ) (x y : A) → i < j → slice_get xs i ≡ Some x → slice_get xs j ≡ Some y → R x y)
    → ((i j : ℕ) (x y : A) → i < j → slice_get ys i ≡ Some x → slice_get ys j ≡ Some y → R x y)
    → xs ≡ ys
same_by_order R asym [] [] f g a b = refl
same_by_order R asym [] (y ∷ ys) f g a b = In_none y (g y (In_head y ys))
same_by_order R asym (x ∷ xs) [] f g a b = In_none x (f x (In_head x xs))
same_by_order {A} R asym (x ∷ xs) (y ∷ ys) f g a b =
    let e : x ≡ y = In_cases x y ys (f x (In_head x xs)) (λ q. q)
    (λ h. In_cases y x xs (g y (In_head y ys)) (λ q. sym q)
    (λ k. absurd (asym x y (a 0 (suc k.0) x y (omega arith) refl k.1) (b 0 (suc h.0) y x (omega arith) refl h.1)))) in
    let t : xs ≡ ys = same_by_order R asym xs ys
    (λ z h. In_cases z y ys (f z (In_tail z x xs h))
    (λ q. absurd (again x z (q ∙ sym e) (a 0 (suc h.0) x z (omega arith) refl h.1))) (λ k. k))
    (λ z h. In_cases z x xs (g z (In_tail z y ys h))
    (λ q. absurd (again y z (q ∙ e) (b 0 (suc h.0) y z (omega arith) refl h.1))) (λ k. k))
    (λ i j u v l p q. a (suc i) (suc j) u v (omega arith) p q)
    (λ i j u v l p q. b (suc i) (suc j) u v (omega arith) p q) in
    cc
  where
    again : (u z : A) → z ≡ u → R u z → ⊥
    again u z q r = asym u u (rw q at r) (rw q at r)

module _ {N : Type 0} {eq : N → N → Bool} (dec : (a b : N) → Decides (eq a b) (a ≡ b)) where
  pub All-from_member : (P : N → Type 0) (xs : List N) → ((x : N) → member eq xs x ≡ true → P x) → All P xs
  All-from_member P [] h = All-nil P
  All-from_member P (x ∷ xs) h =
      All-cons P x xs (h x (or_left (eq x x) _ ((dec x x).1 refl)))
      (All-from_member P xs (λ y m. h y (or_right (eq x y) _ m)))

  pub member_In : (xs : List N) (x : N) → member eq xs x ≡ true → In x xs
  member_In [] x m = absurd (false≢true m)
  member_In (y ∷ xs) x m = by_test (eq y x)
      (λ e. let k : y ≡ x = (dec y x).0 e in rw k (In_head x xs))
      (λ e. In_tail x y xs (member_In xs x (rw e at m)))

  pub In_member : (xs : List N) (x : N) → In x xs → member eq xs x ≡ true
  In_member [] x h = In_none x h
  In_member (y ∷ xs) x h = In_cases x y xs h
      (λ e. rw e (or_left (eq y y) (member eq xs y) (eq-self dec y)))
      (λ k. or_right (eq y x) (member eq xs x) (In_member xs x k))

  pub In_Contains : (xs : List N) (x : N) → In x xs → Contains xs x
  In_Contains = Contains_from_In

  pub Contains_In : (xs : List N) (x : N) → Contains xs x → In x xs
  Contains_In = In_from_Contains
