-- A test of the elements of a list, and its elements.
-- Main statements: In_one, any_by, any_from, all_by, any_In.
-- Used by: ArcsOfStates, and the folder reversing.
-- Idea: induction on the list.
use Rattle.determinize_nfa.proofs.Common.{Bool, In, In_cases, In_head, In_none, In_tail, List, [], and_parts, by_test}
use Rattle.determinize_nfa.proofs.Common.{eqb-true, false≢true, get_or_from_slice_get, list_all, list_any, nat_eq}
use Rattle.determinize_nfa.proofs.Common.{slice_get_within, true, ℕ, ◌∷◌, ◌≡◌}
use Rattle.std.proofs.lemmas.List.Folds.{list_any_at}

pub In_one : {A : Type 0} (x y : A) → In x (y ∷ []) → x ≡ y
In_one x y k = In_cases x y [] k (λ e. e) (λ i. In_none x i)

pub any_by : {A : Type 0} (p : A → Bool) (x : A) (xs : List A) → In x xs → p x ≡ true → list_any p xs ≡ true
any_by p x xs k e =
    list_any_at p xs k.0 x (slice_get_within xs k.0 x k.1) (rw (get_or_from_slice_get xs k.0 x x k.1) e)

pub any_from : {A P : Type 0} (p : A → Bool) (xs : List A) → list_any p xs ≡ true
    → ((x : A) → In x xs → p x ≡ true → P) → P
any_from p [] k f = absurd (false≢true k)
any_from p (y ∷ ys) k f = by_test (p y)
    (λ e. f y (In_head y ys) e)
    (λ e. any_from p ys (rw e at k) (λ x i z. f x (In_tail x y ys i) z))

pub all_by : {A : Type 0} (p : A → Bool) (x : A) (xs : List A) → In x xs → list_all p xs ≡ true → p x ≡ true
all_by p x [] k a = In_none x k
all_by p x (y ∷ ys) k a = In_cases x y ys k
    (λ z. rw z (and_parts (p y) (list_all p ys) a).0)
    (λ i. all_by p x ys i (and_parts (p y) (list_all p ys) a).1)

-- an id that passes a test of some element is an element
pub any_In : (t : ℕ) (ids : List ℕ) → list_any (nat_eq t) ids ≡ true → In t ids
any_In t ids k = any_from (nat_eq t) ids k (λ x i e. rw (eqb-true t x e) i)
