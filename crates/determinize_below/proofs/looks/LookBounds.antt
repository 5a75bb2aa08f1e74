-- The bits of assertions are below 2^18, and so are unions of sets.
-- Main statements: bit_small, or_of_18.
-- Used by: LookSets.
-- Idea: by the 18 assertions.
use Rattle.determinize_below.proofs.Common.{bit_of, bit_or, lit<, Look, Start, ℕ, ◌<◌, ◌^◌, or_lt}

-- each bit is below the 18th
pub bit_small : (l : Look) → bit_of l < 2 ^ 18
bit_small Start = lit< tt
bit_small s = lit< tt

pub or_of_18 : (a b : ℕ) → a < 262144 → b < 262144 → bit_or a b < 262144
or_of_18 a b = or_lt 18 a b
