-- The depth of the deepest of several patterns.
-- Main statements: deepest_push, depth_le_deepest.
-- Used by: the proofs of `is_within` and `are_within`.
-- Idea: induction on the list.
use Rattle.std.proofs.Common.{◌≡◌, ◌++◌, ◌<◌, ◌≤◌, ℕ, List, [], ◌∷◌, arith, get_or, length, max, suc, zero}
use Rattle.determinize_pattern.specs.Nesting.{deepest, depth}
use Rattle.determinize_pattern.specs.declared.pattern.Pattern.{Pattern}

pub deepest_push : (ps : List Pattern) (p : Pattern) → deepest (ps ++ p ∷ []) ≡ max (deepest ps) (depth p)
deepest_push [] p = omega arith
deepest_push (q ∷ ps) p = omega (arith, deepest_push ps p)

pub depth_le_deepest : (ps : List Pattern) (i : ℕ) (p : Pattern) → i < length ps → depth (get_or ps i p) ≤ deepest ps
depth_le_deepest [] i p h = omega (arith, h)
depth_le_deepest (q ∷ ps) zero p h = omega arith
depth_le_deepest (q ∷ ps) (suc i) p h = omega (arith, depth_le_deepest ps i p (omega (arith, h)))
