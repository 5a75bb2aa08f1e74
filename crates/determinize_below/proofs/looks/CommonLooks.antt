-- Two sets meet if and only if they have a common member.
-- Main statements: meets-from, meets-some, meets_class.
-- Used by: the four classes, and whether a closure is repeated.
-- Idea: a bit that is in both numbers is that of an assertion.
use Rattle.determinize_below.proofs.Common.{Any-from_list_any, false_from_ne_true, not, ap, arith, bit_and, Bool, both_ways, by_test, each_look, false, list_any, Look, sym, true, ℕ, ◌&&◌, ◌<◌, ◌^◌, ◌∙◌, ◌≡◌, and_le_r}
use Rattle.determinize_below.specs.Look.{has, meets}
use Rattle.determinize_below.proofs.looks.LookSets.{Decides-empty, has-intersect, has-empty, each_look-any}

-- two sets that do not meet have no common member
meets-none : (a b : ℕ) (l : Look) → meets a b ≡ false → (has a l && has b l) ≡ false
unfolding meets
meets-none a b l h = let empty : bit_and a b ≡ 0 = grind arith in cc (has-intersect a b l, has-empty l)

-- a common member
pub meets-from : (a b : ℕ) (l : Look) → has a l ≡ true → has b l ≡ true → meets a b ≡ true
meets-from a b l h k = grind (arith, meets-none a b l)

-- where the test of all of them fails, each fails it
pub each_look-false : (test : Look → Bool) → list_any test each_look ≡ false → (l : Look) → test l ≡ false
each_look-false test h l = false_from_ne_true _ (λ e. both_ways _ h (each_look-any test l e))

-- two sets meet if some assertion is in both
pub meets-some : (a b : ℕ) → bit_and a b < 2 ^ 18 → meets a b ≡ list_any (λ l. has a l && has b l) each_look
unfolding meets
meets-some a b h =
    let both = λ (l : Look). has a l && has b l in
    by_test (list_any both each_look)
    (λ e. let x = Any-from_list_any both each_look e in grind (arith, meets-none a b x.1, x.4))
    (λ e. ap not ((Decides-empty (bit_and a b) h).1 (λ l. has-intersect a b l ∙ each_look-false both e l)) ∙ sym e)

-- a set meets a class if and only if some member of the class is in the set
pub meets_class : (set class : ℕ) → class < 2 ^ 18
    → meets set class ≡ list_any (λ l. has set l && has class l) each_look
meets_class set class h = meets-some set class (omega (arith, and_le_r set class))
