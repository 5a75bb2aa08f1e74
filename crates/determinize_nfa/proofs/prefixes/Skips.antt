-- The choices of a run that passes over some bytes first, and their order.
-- Main statements: skip_before, pass_first, skip_same.
-- Used by: AfterPrefix, and in determinize_find PreferredRun and the laws of idle scans.
-- Idea: at the first union the choice 0 ends the prefix and the choice 1 passes over a byte, so fewer bytes come first.
use Rattle.determinize_nfa.proofs.Common.{List, [], arith, refl, suc, zero, ℕ, ◌<◌, ◌∷◌, ◌≡◌, ◌≤◌, ◌⊎◌}
use Rattle.ordered_reach.specs.Paths.{Before}
use Rattle.ordered_reach.proofs.lists.Lexicographic.{Before-first, Before-rest, same_first}

-- that number of bytes is passed over, and then these choices are made
abbrev pub pass : ℕ → List ℕ → List ℕ
pass zero cs = cs
pass (suc d) cs = 1 ∷ 0 ∷ pass d cs

-- that number of bytes is skipped, and then these choices are made from the anchored start
abbrev pub skip : ℕ → List ℕ → List ℕ
skip d cs = pass d (0 ∷ cs)

-- a run that begins earlier is before one that passes over more bytes
pub skip_before : (d e : ℕ) (cs ds : List ℕ) → d < e → Before (skip d cs) (pass e ds)
skip_before zero zero cs ds l = absurd (omega arith)
skip_before zero (suc e) cs ds l = Before-first 0 1 cs (0 ∷ pass e ds) (omega arith)
skip_before (suc d) zero cs ds l = absurd (omega arith)
skip_before (suc d) (suc e) cs ds l = Before-rest 1 (0 ∷ skip d cs) (0 ∷ pass e ds)
    (Before-rest 0 (skip d cs) (pass e ds) (skip_before d e cs ds (omega arith)))

-- a run that ends in the prefix is before each that has it as its beginning
pub pass_first : (d e c : ℕ) (cs : List ℕ) → d ≤ e → Before (pass d []) (pass e (c ∷ cs))
pass_first zero zero c cs l = refl
pass_first zero (suc e) c cs l = refl
pass_first (suc d) zero c cs l = absurd (omega arith)
pass_first (suc d) (suc e) c cs l = Before-rest 1 (0 ∷ pass d []) (0 ∷ pass e (c ∷ cs))
    (Before-rest 0 (pass d []) (pass e (c ∷ cs)) (pass_first d e c cs (omega arith)))

-- runs that begin at one position are in the order of what follows there
pub skip_same : (d : ℕ) (cs ds : List ℕ) → (skip d cs ≡ skip d ds) ⊎ Before (skip d cs) (skip d ds)
    → (cs ≡ ds) ⊎ Before cs ds
skip_same zero cs ds h = same_first 0 cs ds h
skip_same (suc d) cs ds h = skip_same d cs ds
    (same_first 0 (skip d cs) (skip d ds) (same_first 1 (0 ∷ skip d cs) (0 ∷ skip d ds) h))
