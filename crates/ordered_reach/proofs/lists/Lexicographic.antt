-- The lexicographic order of lists of numbers, by the first number of each.
-- Main statements: Before-first, Before-rest, Before-parts, Before-asym, Before-trans, same_least.
-- Used by: PathLists, UniqueOrder, MostPreferred, RunLists, and runs after the prefix of an NFA.
-- Idea: the first numbers decide unless they are equal.
use Rattle.ordered_reach.proofs.Common.{[], arith, Before, by_cases, List, sym, ℕ, ◌<◌, ◌∷◌, ◌≡◌, ◌⊎◌}
use Rattle.std.proofs.lemmas.Bool.Decides.{nat_tests}

pub Before-first : (c d : ℕ) (cs ds : List ℕ) → c < d → Before (c ∷ cs) (d ∷ ds)
Before-first c d cs ds l = grind (arith, nat_tests)

pub Before-rest : (c : ℕ) (cs ds : List ℕ) → Before cs ds → Before (c ∷ cs) (c ∷ ds)
Before-rest c cs ds b = grind (arith, nat_tests)

-- the first numbers decide, or the rest does
pub Before-parts : (c d : ℕ) (cs ds : List ℕ) → Before (c ∷ cs) (d ∷ ds) → (c < d) ⊎ ((c ≡ d) × Before cs ds)
Before-parts c d cs ds b = grind (arith, nat_tests)

pub Before-asym : (cs ds : List ℕ) → Before cs ds → Before ds cs → ⊥
Before-asym [] ds a b = grind arith
Before-asym (c ∷ cs) [] a b = grind arith
Before-asym (c ∷ cs) (d ∷ ds) a b =
    grind (arith, Before-parts c d cs ds a, Before-parts d c ds cs b, Before-asym cs ds)

pub Before-trans : (xs ys zs : List ℕ) → Before xs ys → Before ys zs → Before xs zs
Before-trans [] [] zs p q = grind arith
Before-trans (x ∷ xs) [] zs p q = grind arith
Before-trans xs (y ∷ ys) [] p q = grind arith
Before-trans [] (y ∷ ys) (z ∷ zs) p q = grind arith
Before-trans (x ∷ xs) (y ∷ ys) (z ∷ zs) p q = by_cases (Before-parts x y xs ys p)
    (λ l. by_cases (Before-parts y z ys zs q)
    (λ m. Before-first x z xs zs (omega arith))
    (λ m. Before-first x z xs zs (omega (arith, m.0))))
    (λ l. by_cases (Before-parts y z ys zs q)
    (λ m. Before-first x z xs zs (omega (arith, l.0)))
    (λ m. rw (l.0, m.0) (Before-rest z xs zs (Before-trans xs ys zs l.1 m.1))))

-- two lists, neither of which is after the other, are equal
pub same_least : (cs ds : List ℕ) → (cs ≡ ds) ⊎ Before cs ds → (ds ≡ cs) ⊎ Before ds cs → cs ≡ ds
same_least cs ds a b = by_cases a (λ e. e) (λ k. by_cases b (λ e. sym e) (λ l. absurd (Before-asym cs ds k l)))

-- after the same first number, the order is that of the rest
pub same_first : (c : ℕ) (cs ds : List ℕ) → (c ∷ cs ≡ c ∷ ds) ⊎ Before (c ∷ cs) (c ∷ ds) → (cs ≡ ds) ⊎ Before cs ds
same_first c cs ds h = grind (arith, Before-parts c c cs ds)
