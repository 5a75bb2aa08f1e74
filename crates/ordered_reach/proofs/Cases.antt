-- Case analysis on booleans, sums and options, and a few laws of `or`.
-- Main statements: by_test, by_cases, by_option, some_injective.
-- Used by: nearly every file of lemmas, in all crates.
-- Idea: a proof by cases names the equation of each case, so that `rw` can use it.
use Rattle.std.proofs.Common.{Bool, None, Option, Some, arith, false, inl, inr, refl, true, ◌||◌, ◌≡◌, ◌⊎◌}

-- by the two values of a boolean
pub by_test : {P : Type 0} (b : Bool) → (b ≡ true → P) → (b ≡ false → P) → P
by_test true f g = f refl
by_test false f g = g refl

-- by the two cases of a sum
pub by_cases : {A B P : Type 0} → A ⊎ B → (A → P) → (B → P) → P
by_cases (inl a) f g = f a
by_cases (inr b) f g = g b

-- by the two cases of an option
pub by_option : {A P : Type 0} (o : Option A) → (o ≡ None → P) → ((a : A) → o ≡ Some a → P) → P
by_option None f g = f refl
by_option (Some a) f g = g a refl

pub some_injective : {A : Type 0} (a b : A) → Some a ≡ Some b → a ≡ b
some_injective a b e = cc

pub or_false : (a : Bool) → (a || false) ≡ true → a ≡ true
or_false a h = grind arith

pub or_false_left : (a b : Bool) → (a || b) ≡ false → a ≡ false
or_false_left a b h = grind arith

pub or_false_right : (a b : Bool) → (a || b) ≡ false → b ≡ false
or_false_right a b h = grind arith
