-- The errors that there are too many states, or no memory.
-- Main statements: too_many, no_memory.
-- Used by: the functions of `Builder` and of `Turned`, and `reversed`.
-- Idea: a number that is no id is at least the limit.
use Rattle.determinize_nfa.proofs.Common.{BuildError, ID_LIMIT, IsTooLarge, MAX_ID, OutOfMemory, TooManyStates, arith}
use Rattle.determinize_nfa.proofs.Common.{if_err_and, inl, inr, ℕ, ◌<◌, ◌≡◌, ◌≤◌}
use Rattle.std.specs.Prelude.{IfErr, IsErrAnd}
use Rattle.std.proofs.Common.{Result}

-- a number that is no id is below the number of states
pub too_many : (n count : ℕ) → n < count → (n ≤ MAX_ID → ⊥) → (e : BuildError) → e ≡ TooManyStates → IsTooLarge count e
too_many n count below above e h = let l : ID_LIMIT < count = omega arith in inr (h, l)

pub no_memory : {T : Type 0} (r : Result T BuildError) (count : ℕ) → IsErrAnd r (λ e. e ≡ OutOfMemory)
    → IfErr r (λ e. IsTooLarge count e)
no_memory r count h = if_err_and r _ _ (λ e z. inl z) h
