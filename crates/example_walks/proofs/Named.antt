-- A test of the images of a list is a test of the list.
-- Main statements: any_map.
-- Used by: `named`.
-- Idea: by induction on the list.
use Rattle.std.proofs.Common.{◌≡◌, ◌∷◌, ◌||◌, [], refl, ap, Bool, List, map}
use Rattle.std.specs.List.{list_any}

-- a test of images
pub any_map : {A B : Type 0} (p : B → Bool) (f : A → B) (xs : List A)
    → list_any (λ x. p (f x)) xs ≡ list_any p (map f xs)
any_map p f [] = refl
any_map p f (x ∷ xs) = ap (λ b. p (f x) || b) (any_map p f xs)
