-- The first accepting node of a search over positions, found by scanning position by position.
-- Main statements: best, best_step.
-- Used by: CutLists.
-- Idea: what accepts later before the cut is preferred to what accepts at the cut.
use Rattle.ordered_reach.proofs.Common.{◌∙◌, ap, [], arith, before, Bool, Decides, ends, false, false≢true, find, find-append, flat_map, fresh, List, None, none_held, Option, option_map, option_or, ordered, placed, refl, suc, true, with_node, ℕ, ◌++◌, ◌∷◌, ◌≡◌}
use Rattle.ordered_reach.proofs.runs.ByPosition.{IsEnoughForRuns, runs, runs-append, runs_are_listed, runs_over}
use Rattle.ordered_reach.proofs.lists.Pieces.{option_or-assoc}

-- the first accepting node of all runs from some states at a position
abbrev pub best : {N : Type 0} → (N → N → Bool) → (ℕ → N → List N) → (ℕ → N → List N) → (N → Bool) → ℕ → ℕ → List N
    → Option (ℕ × N)
best eq eps bytes acc n i rs = find (λ p. acc p.1) (runs eq eps bytes n i rs)

module _ {N : Type 0} {eq : N → N → Bool} (dec : (a b : N) → Decides (eq a b) (a ≡ b)) where
  -- the first node that passes is new
  find-fresh : (p seen : N → Bool) (xs : List N) → ((x : N) → seen x ≡ true → p x ≡ false)
      → find p (fresh eq seen xs) ≡ find p xs
  find-fresh p seen [] h = refl
  find-fresh p seen (x ∷ xs) h = grind (arith, h, dec, find-fresh p seen xs h, find-fresh p (with_node eq seen x) xs)

  -- cutting at the first that passes and leaving out repeats commute
  before-fresh : (p seen : N → Bool) (xs : List N) → ((x : N) → seen x ≡ true → p x ≡ false)
      → before p (fresh eq seen xs) ≡ fresh eq seen (before p xs)
  before-fresh p seen [] h = refl
  before-fresh p seen (x ∷ xs) h =
      grind (arith, h, dec, before-fresh p seen xs h, before-fresh p (with_node eq seen x) xs)

  module _ (eps bytes : ℕ → N → List N) (acc : N → Bool) (m : ℕ) where
    -- the first accepting node of the runs from one list of states, and then from another
    best-append : (i : ℕ) (xs ys : List N) → best eq eps bytes acc m i (xs ++ ys)
        ≡ option_or (best eq eps bytes acc m i xs) (best eq eps bytes acc m i ys)
    best-append i xs ys = rw (runs-append eq eps bytes m i xs ys) (find-append _ (runs eq eps bytes m i xs) _)

    -- states from which no run accepts may be left out
    best-fresh : (i : ℕ) (f : N → List N) (seen : N → Bool) (xs : List N)
        → ((x : N) → seen x ≡ true → best eq eps bytes acc m i (f x) ≡ None)
        → best eq eps bytes acc m i (flat_map f (fresh eq seen xs)) ≡ best eq eps bytes acc m i (flat_map f xs)
    best-fresh i f seen [] h = refl
    best-fresh i f seen (x ∷ xs) h =
        let left = best-append i (f x) (flat_map f (fresh eq (with_node eq seen x) xs)) in
        let right = best-append i (f x) (flat_map f xs) in
        grind (arith, h, dec, left, right, best-fresh i f seen xs h, best-fresh i f (with_node eq seen x) xs)

    -- a scan of the states at a position, cut at the first accepting one
    best_cut : (i : ℕ) (l : List N) → find (λ p. acc p.1) (flat_map (runs_over eq eps bytes m i) l)
        ≡ option_or (best eq eps bytes acc m (suc i) (flat_map (bytes i) (before acc l)))
        (option_map (placed i) (find acc l))
    best_cut i [] = refl
    best_cut i (s ∷ l) =
        let left = find-append (λ p. acc p.1) (runs eq eps bytes m (suc i) (bytes i s))
        (flat_map (runs_over eq eps bytes m i) l) in
        let right = best-append (suc i) (bytes i s) (flat_map (bytes i) (before acc l)) in
        grind (arith, option_or-assoc, left, right, best_cut i l)

    -- the first accepting node is found from the states before the first accepting one, or else is
    -- that one
    pub best_step : ((p : ℕ × N) → IsEnoughForRuns eq eps bytes m none_held p) → (i : ℕ) (rs : List N)
        → best eq eps bytes acc m i rs ≡ option_or
        (best eq eps bytes acc m (suc i) (flat_map (bytes i) (before acc (ordered eq (eps i) m none_held rs))))
        (option_map (placed i) (find acc (ordered eq (eps i) m none_held rs)))
    best_step enough i rs =
        let L : List N = flat_map (ends eq (eps i) m none_held) rs in
        let none : (x : N) → none_held x ≡ true → acc x ≡ false = λ x e. absurd (false≢true e) in
        let rest = best-fresh (suc i) (bytes i) none_held (before acc L) (λ x e. absurd (false≢true e)) in
        ap (λ l. find (λ p. acc p.1) l) (runs_are_listed dec eps bytes m enough i rs)
        ∙ rw (before-fresh acc none_held L none, find-fresh acc none_held L none, rest) (best_cut i L)
