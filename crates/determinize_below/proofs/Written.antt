-- A list of one value that is written from its front on.
-- Main statements: replicated, set_more.
-- Used by: SortedBytes, TestSplits, and the functions of `byte_classes`.
-- Idea: a write behind some elements leaves them as they are.
use Rattle.determinize_below.proofs.Common.{◌≡◌, ◌≢◌, ℕ, ◌+◌, ◌<◌, List, arith, below_more, get_or, get_or-set_other}
use Rattle.determinize_below.proofs.Common.{get_or-set_same, length, refl, replicate, set, suc, zero}

-- each element of a list of one value
pub replicated : {X : Type 0} (n k : ℕ) (x : X) → get_or (replicate n x) k x ≡ x
replicated zero k x = refl
replicated (suc n) zero x = refl
replicated (suc n) (suc k) x = replicated n k x

-- each element of a list, after a write behind those so far
pub set_more : {X : Type 0} (P : ℕ → X → Type 0) (d : X) (xs : List X) (n : ℕ) (x : X) → n < length xs
    → ((k : ℕ) → k < n → P k (get_or xs k d)) → P n x → (k : ℕ) → k < n + 1 → P k (get_or (set xs n x) k d)
set_more P d xs n x within h here = below_more (λ k. P k (get_or (set xs n x) k d)) n
    (λ k l. let ne : k ≢ n = omega arith in rw (get_or-set_other xs n k x d ne) (h k l))
    (rw (get_or-set_same xs n x d within) here)
