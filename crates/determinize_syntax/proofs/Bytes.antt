-- Bytes that are listed, choices by tests, and the first byte of a text.
-- Main statements: within, apart, chosen, front_of, at_end.
-- Used by: most proofs of this crate, through Common.
-- Idea: what all listed bytes have is computed for each of them.
use Rattle.std.proofs.Common.{◌||◌, ◌∷◌, ◌≡◌, Bool, List, None, Option, Some, [], ap, false, if◌then◌else◌, not}
use Rattle.std.proofs.Common.{refl, slice_get, true, ℕ}
use Rattle.std.specs.Prelude.{◌==◌}
use Rattle.std.specs.List.{list_all, list_any}
use Rattle.std.proofs.lemmas.Bool.{and_parts, eqb-true, not-true}
use Rattle.ordered_reach.proofs.Cases.{by_test, some_injective}

-- a test has one result
pub clash : {A : Type 0} {b : Bool} → b ≡ true → b ≡ false → A
clash is other = absurd (cc)

-- a byte that is listed has what all listed bytes have
pub within : (p : ℕ → Bool) (l : List ℕ) (c : ℕ) → list_any (λ d. d == c) l ≡ true → list_all p l ≡ true → p c ≡ true
within p [] c e all = absurd (cc)
within p (d ∷ l) c e all =
    let both = and_parts (p d) (list_all p l) all in
    by_test (d == c) (λ t. rw (eqb-true d c t) at both.0) (λ t. within p l c (rw t at e) both.1)

-- a byte of a kind that none listed has is not listed
pub apart : (p : ℕ → Bool) (l : List ℕ) (c : ℕ) → p c ≡ true → list_all (λ x. not (p x)) l ≡ true
    → list_any (λ d. d == c) l ≡ false
apart p l c is none =
    by_test (list_any (λ d. d == c) l) (λ t. clash is (not-true (p c) (within (λ x. not (p x)) l c t none))) (λ t. t)

-- what follows of each branch follows of the choice
pub chosen : {A P : Type 0} {v : A} (b : Bool) (x y : Option A) → (b ≡ true → x ≡ Some v → P) → (y ≡ Some v → P)
    → (if b then x else y) ≡ Some v → P
chosen true x y f g e = f refl e
chosen false x y f g e = g e

pub either : {A : Type 0} (x y : Bool) → (x ≡ true → A) → (y ≡ true → A) → (x || y) ≡ true → A
either true y f g e = f refl
either false y f g e = g e

-- the parts of two texts that are the same
pub heads : {a b : ℕ} {l m : List ℕ} → a ∷ l ≡ b ∷ m → a ≡ b
heads e = (cc)

pub tails : {a b : ℕ} {l m : List ℕ} → a ∷ l ≡ b ∷ m → l ≡ m
tails e = (cc)

-- the byte in front
pub front_of : (t : List ℕ) (b : ℕ) → slice_get t 0 ≡ Some b → (r : List ℕ) × (t ≡ b ∷ r)
front_of [] b e = absurd (cc)
front_of (x ∷ t) b e = (t, ap (λ y. y ∷ t) (some_injective x b e))

pub at_end : (t : List ℕ) → slice_get t 0 ≡ None → t ≡ []
at_end [] e = refl
at_end (x ∷ t) e = absurd (cc)
