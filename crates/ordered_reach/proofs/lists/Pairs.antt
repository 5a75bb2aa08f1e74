-- A relation of each element of a list to all later ones.
-- Main statements: Sorted, Sorted-at, Sorted-append, Sorted-map, pairs_from, pairs_at.
-- Used by: the lists of paths, and the lists of patterns of a walk.
-- Idea: by recursion on the list, or by the indices of two elements.
use Rattle.ordered_reach.proofs.Common.{[], AllPairs, slice_get, slice_index_or, ◌≡◌, ◌<◌, ℕ, List, Some, arith, length, map, refl, subst, suc, zero, get_or_from_slice_get, slice_get-get_or, slice_get_within, ◌++◌, ◌∷◌}
use Rattle.ordered_reach.proofs.lists.Elements.{In, In_append_cases, In_head, In_map_from, In_none, In_tail}

-- each element is related to all later ones
abbrev pub Sorted : {A : Type 0} → (A → A → Type 0) → List A → Type 0
Sorted R [] = Unit {0}
Sorted {A} R (x ∷ xs) = ((y : A) → In y xs → R x y) × Sorted R xs

pub Sorted-append : {A : Type 0} (R : A → A → Type 0) (xs ys : List A) → Sorted R xs → Sorted R ys
    → ((x y : A) → In x xs → In y ys → R x y) → Sorted R (xs ++ ys)
Sorted-append R [] ys a b h = b
Sorted-append R (x ∷ xs) ys a b h =
    let rest = Sorted-append R xs ys a.1 b (λ z y k l. h z y (In_tail z x xs k) l) in
    ((λ y l. In_append_cases y xs ys l (a.0 y) (h x y (In_head x xs))), rest)

pub Sorted-map : {A B : Type 0} (R : B → B → Type 0) (f : A → B) (S : A → A → Type 0) (xs : List A)
    → ((x y : A) → In x xs → In y xs → S x y → R (f x) (f y)) → Sorted S xs → Sorted R (map f xs)
Sorted-map R f S [] h a = tt
Sorted-map R f S (x ∷ xs) h a =
    let rest = Sorted-map R f S xs (λ y z k l. h y z (In_tail y x xs k) (In_tail z x xs l)) a.1 in
    ((λ z l. In_map_from f z xs l (λ y k e. rw e (h x y (In_head x xs) (In_tail y x xs k) (a.0 y k)))), rest)

pub Sorted-at : {A : Type 0} (R : A → A → Type 0) (xs : List A) → Sorted R xs
    → (i j : ℕ) (x y : A) → i < j → slice_get xs i ≡ Some x → slice_get xs j ≡ Some y → R x y
Sorted-at R [] s i j x y l a b = In_none x (i, a)
Sorted-at R (z ∷ xs) s i zero x y l a b = absurd (omega arith)
Sorted-at R (z ∷ xs) s zero (suc j) x y l a b = let q : z ≡ x = cc in rw (← q) (s.0 y (j, b))
Sorted-at R (z ∷ xs) s (suc i) (suc j) x y l a b = Sorted-at R xs s.1 i j x y (omega arith) a b

pub Sorted-from : {A : Type 0} (R : A → A → Type 0) (xs : List A)
    → ((i j : ℕ) (x y : A) → i < j → slice_get xs i ≡ Some x → slice_get xs j ≡ Some y → R x y) → Sorted R xs
Sorted-from R [] h = tt
Sorted-from R (x ∷ xs) h =
    let rest = Sorted-from R xs (λ i j u v l p q. h (suc i) (suc j) u v (omega arith) p q) in
    ((λ y k. h 0 (suc k.0) x y (omega arith) refl k.1), rest)

pub pairs_from : {A : Type 0} (R : A → A → Type 0) (xs : List A)
    → ((i j : ℕ) (x y : A) → i < j → slice_get xs i ≡ Some x → slice_get xs j ≡ Some y → R x y) → AllPairs R xs
pairs_from R xs h = λ i j d l m.
    let n : i < length xs = omega (arith, l, m) in
    h i j (slice_index_or xs i d) (slice_index_or xs j d) l (slice_get-get_or xs i d n) (slice_get-get_or xs j d m)

pub pairs_at : {A : Type 0} (R : A → A → Type 0) (xs : List A) → AllPairs R xs
    → (i j : ℕ) (x y : A) → i < j → slice_get xs i ≡ Some x → slice_get xs j ≡ Some y → R x y
pairs_at R xs h i j x y l u v =
    subst (λ z. R z y) (get_or_from_slice_get xs i x x u)
    (subst (λ z. R (slice_index_or xs i x) z) (get_or_from_slice_get xs j y x v)
    (h i j x l (slice_get_within xs j y v)))
