-- The reversed assertion, read in the other direction.
-- Main statements: reversed_holds.
-- Used by: `reversed_law`, and the reversed NFA.
-- Idea: by the 18 assertions.
use Rattle.determinize_below.proofs.Common.{arith, Bool, holds, not, Option, ℕ, ◌≡◌, reversed, Assertion}

pub reversed_holds : (look : Assertion) (reverse : Bool) (t : ℕ) (p q : Option ℕ)
    → holds (not reverse) t q p (reversed look) ≡ holds reverse t p q look
reversed_holds look r t p q = grind arith
