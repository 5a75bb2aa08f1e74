use Rattle.determinize_below.proofs.Common.{◌<◌, ◌≤◌, ℕ, get_or}
use Rattle.determinize_below.proofs.nfa.byte_classes.Partition.is_cut.Given as goal

abbrev pub invariant-loop-byte : goal.invariant-loop-byte
invariant-loop-byte l = (b : ℕ) → l.start ≤ b → b < l.byte
    → (l.start ≤ get_or l.self.least b 0)
    × (get_or l.self.greatest (get_or l.self.least b 0) 0 ≤ l.end)
