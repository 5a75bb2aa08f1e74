-- The least number of steps up to the ends of matches.
-- Main statements: AreCounted, counted_more, counted_push.
-- Used by: Collected.
-- Idea: the steps up to the end of a match were counted when it was found, and a count is never smaller later.
use Rattle.std.proofs.Common.{◌≤◌, ◌+◌, ◌-◌, ◌++◌, ◌∷◌, ℕ, List, [], arith}
use Rattle.std.specs.List.{All}
use Rattle.std.proofs.lemmas.List.Elements.{All-push, All-weaker}
use Rattle.determinize_below.specs.declared.search.Match.{Match}

-- of each match the steps so far are at least one for each index from the start of the range to its end
abbrev pub AreCounted : ℕ → ℕ → ℕ → List Match → Type 0
AreCounted start before total ms = All (λ m. before + (m.end + 1 - start) ≤ total) ms

pub counted_more : (start before total new : ℕ) (ms : List Match) → total ≤ new → AreCounted start before total ms
    → AreCounted start before new ms
counted_more start before total new ms l all = All-weaker (λ m. before + (m.end + 1 - start) ≤ total)
    (λ m. before + (m.end + 1 - start) ≤ new) (λ m h. omega (arith, h, l)) ms all

pub counted_push : (start before total : ℕ) (ms : List Match) (m : Match) → AreCounted start before total ms
    → before + (m.end + 1 - start) ≤ total → AreCounted start before total (ms ++ m ∷ [])
counted_push start before total ms m all l = All-push (λ n. before + (n.end + 1 - start) ≤ total) ms m all l
