-- Laws of the runs over the rest of a text, and of a text that is read in the other direction.
use Rattle.std.specs.Prelude.{◌+◌, ◌≤◌, ◌↔◌, ℕ, List, length}
use Rattle.determinize_below.specs.Semantics.{Nfa, Text}
use Rattle.determinize_nfa.specs.Reversal.{IsMirrored, turned, upto}
use Rattle.determinize_nfa.specs.Runs.{AcceptsFrom, since}

-- runs from position k + j are runs from position j of the text since k, with the same choices
abbrev pub EachRunMoves : Type 0
EachRunMoves = (nfa : Nfa) (text : Text) (k j start : ℕ) (cs : List ℕ) (i pattern : ℕ)
    → (AcceptsFrom nfa text (k + j) start cs (k + i) pattern)
    ↔ (AcceptsFrom nfa (since text k) j start cs i pattern)

-- a run does not accept before the position where it begins
abbrev pub EachRunReadsForward : Type 0
EachRunReadsForward = (nfa : Nfa) (text : Text) (k start : ℕ) (cs : List ℕ) (i pattern : ℕ)
    → AcceptsFrom nfa text k start cs i pattern → k ≤ i

-- the text up to a position, in the other direction, is its mirror image
abbrev pub EachReadingIsMirrored : Type 0
EachReadingIsMirrored = (text : Text) (j : ℕ) → j ≤ length text.bytes
    → IsMirrored text (turned (upto text j)) j
