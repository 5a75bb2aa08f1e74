use Rattle.determinize_syntax.proofs.Common.{◌≡◌, Bytes, IsCount, NoDigit, Part, Reads, Some, length, number, rest, ℕ}
use Rattle.determinize_syntax.proofs.Numbers.{Left}
use Rattle.determinize_syntax.proofs.repetition.decimal.Given as goal

abbrev pub invariant-loop-next : goal.invariant-loop-next
invariant-loop-next l =
    Reads l.fn.cursor l.cursor (λ t. number 10 t ≡ Some l.value)
    × ((n : ℕ) (u : Bytes) → Part (rest l.fn.cursor) u (IsCount n) → NoDigit 10 u
    → Left 10 0xFFFF_FFFF l.value n u (rest l.cursor))

abbrev pub decreases-loop-next : goal.decreases-loop-next
decreases-loop-next l = length (rest l.cursor)
