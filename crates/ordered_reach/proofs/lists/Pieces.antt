-- Laws of lists: concatenation, the first element that passes a test, the elements before it, filters.
-- Main statements: flat_map-flat_map, flat_map-without, before-without, find-without.
-- Used by: the folders graph and runs, and the crates above.
-- Idea: induction on the list, by cases on the test of its first element.
use Rattle.ordered_reach.proofs.Common.{[], ap, arith, before, Bool, by_test, false, false≢true, filter, filter-append, find, flat_map, flat_map-append, fun_ext, length, length-append, List, None, Option, option_map, option_or, refl, true, without, ◌∷◌, ◌≡◌, ◌≤◌, list_any}

pub flat_map-same : {A B : Type 0} (f g : A → List B) (xs : List A) → ((x : A) → f x ≡ g x)
    → flat_map f xs ≡ flat_map g xs
flat_map-same f g xs h = ap (λ k. flat_map k xs) (fun_ext h)

pub flat_map-flat_map : {A B C : Type 0} (f : A → List B) (g : B → List C) (xs : List A)
    → flat_map g (flat_map f xs) ≡ flat_map (λ x. flat_map g (f x)) xs
flat_map-flat_map f g [] = refl
flat_map-flat_map f g (x ∷ xs) = grind (arith, flat_map-append, flat_map-flat_map f g xs)

pub flat_map_none : {A B : Type 0} (f : A → List B) (xs : List A) → ((x : A) → f x ≡ []) → flat_map f xs ≡ []
flat_map_none f [] h = refl
flat_map_none f (x ∷ xs) h = rw (h x) (flat_map_none f xs h)

pub filter-flat_map : {A B : Type 0} (p : B → Bool) (f : A → List B) (xs : List A)
    → filter p (flat_map f xs) ≡ flat_map (λ x. filter p (f x)) xs
filter-flat_map p f [] = refl
filter-flat_map p f (x ∷ xs) = grind (arith, filter-append, filter-flat_map p f xs)

pub flat_map-without : {A B : Type 0} (f : A → List B) (cap : A → Bool) (xs : List A)
    → ((x : A) → cap x ≡ true → f x ≡ []) → flat_map f (without cap xs) ≡ flat_map f xs
flat_map-without f cap [] h = refl
flat_map-without f cap (x ∷ xs) h = grind (arith, h x, flat_map-without f cap xs h)

pub before-without : {A : Type 0} (p cap : A → Bool) (xs : List A) → ((x : A) → p x ≡ true → cap x ≡ false)
    → before p (without cap xs) ≡ without cap (before p xs)
before-without p cap [] h = refl
before-without p cap (x ∷ xs) h = grind (arith, h x, before-without p cap xs h)

pub find-without : {A : Type 0} (p cap : A → Bool) (xs : List A) → ((x : A) → p x ≡ true → cap x ≡ false)
    → find p (without cap xs) ≡ find p xs
find-without p cap [] h = refl
find-without p cap (x ∷ xs) h = grind (arith, h x, find-without p cap xs h)

pub without_twice : {A : Type 0} (cap : A → Bool) (xs : List A) → without cap (without cap xs) ≡ without cap xs
without_twice cap [] = refl
without_twice cap (x ∷ xs) = grind (arith, without_twice cap xs)

pub option_or-assoc : {A : Type 0} (a b c : Option A) → option_or (option_or a b) c ≡ option_or a (option_or b c)
option_or-assoc a b c = grind arith

pub option_or-None : {A : Type 0} (o : Option A) → option_or o None ≡ o
option_or-None o = grind arith

pub map-option_or : {A B : Type 0} (f : A → B) (a b : Option A)
    → option_map f (option_or a b) ≡ option_or (option_map f a) (option_map f b)
map-option_or f a b = grind arith

pub length-flat_map_le : {A B : Type 0} (f : A → List B) (xs : List A) → ((x : A) → length (f x) ≤ 1)
    → length (flat_map f xs) ≤ length xs
length-flat_map_le f [] h = omega arith
length-flat_map_le f (x ∷ xs) h = grind (arith, length-append, h x, length-flat_map_le f xs h)

pub length-before_le : {A : Type 0} (p : A → Bool) (xs : List A) → length (before p xs) ≤ length xs
length-before_le p [] = omega arith
length-before_le p (x ∷ xs) = grind (arith, length-before_le p xs)

pub list_any_unmet : {A : Type 0} (p : A → Bool) (xs : List A) → ((x : A) → p x ≡ false) → list_any p xs ≡ false
list_any_unmet p [] h = refl
list_any_unmet p (x ∷ xs) h = rw (h x) (list_any_unmet p xs h)

pub list_any_some : {A P : Type 0} (p : A → Bool) (xs : List A) → list_any p xs ≡ true → ((x : A) → p x ≡ true → P) → P
list_any_some p [] h f = absurd (false≢true h)
list_any_some p (x ∷ xs) h f = by_test (p x) (λ e. f x e) (λ e. list_any_some p xs (rw e at h) f)
