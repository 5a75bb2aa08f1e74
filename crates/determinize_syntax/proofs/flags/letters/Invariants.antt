use Rattle.determinize_syntax.proofs.Common.{Bytes, Flags, IsAfterLetters, Letters, Reads, Sets, [], length, rest, true}
use Rattle.determinize_syntax.proofs.flags.letters.Given as goal

abbrev pub invariant-loop-cursor : goal.invariant-loop-cursor
invariant-loop-cursor l =
    Reads l.fn.cursor l.cursor (Sets l.fn.flags l.on l.flags)
    × ((g : Flags) (u : Bytes) → Letters g u [] true l.fn.flags (rest l.fn.cursor) → IsAfterLetters u
    → Reads l.fn.cursor l.cursor (λ t. Letters g u t l.on l.flags (rest l.cursor)))

abbrev pub decreases-loop-cursor : goal.decreases-loop-cursor
decreases-loop-cursor l = length (rest l.cursor)
