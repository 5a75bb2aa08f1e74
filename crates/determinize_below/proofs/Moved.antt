-- A list that takes what another gives, element by element.
-- Main statements: one_more, next_of.
-- Used by: loops over a slice or a `Vec`, as those of `looks_in`, and of the crates above.
-- Idea: an element at the end of the one list is an element before the rest of the other.
use Rattle.std.proofs.Common.{◌≡◌, ◌<◌, ◌+◌, ◌++◌, ◌∙◌, ◌∷◌, ℕ, List, [], ap, append_assoc, arith, drop, get_or, length, map, suc, sym}
use Rattle.std.proofs.Math.Seq.{drop-cons}
use Rattle.std.proofs.lemmas.List.{map-append}

module _ {V W : Type 0} (f : V → W) (made : List V) (whole : List W) where
  pub one_more : (new : List V) (x : V) (y : W) (rest : List W) → new ≡ made ++ x ∷ [] → f x ≡ y
      → map f made ++ y ∷ rest ≡ whole → map f new ++ rest ≡ whole
  one_more new x y rest e n h = rw (e, map-append f made (x ∷ []), append_assoc, n) h

-- the next element of a slice
pub next_of : {X : Type 0} (xs : List X) (i : ℕ) (x : X) → i < length xs → x ≡ get_or xs i x
    → drop i xs ≡ x ∷ drop (i + 1) xs
next_of xs i x l e =
    let z : suc i ≡ i + 1 = omega arith in
    drop-cons xs i x l ∙ ap (λ y. y ∷ drop (suc i) xs) (sym e) ∙ ap (λ k. x ∷ drop k xs) z
