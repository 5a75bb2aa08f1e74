use Rattle.determinize_syntax.proofs.Common.{◌∷◌, ◌≡◌, Bytes, IsDigits, Part, Reads, Some, length, number, rest, ℕ}
use Rattle.determinize_syntax.proofs.Numbers.{Left}
use Rattle.determinize_syntax.proofs.escape.hex_number.Given as goal

abbrev pub invariant-loop-cursor : goal.invariant-loop-cursor
invariant-loop-cursor l =
    Reads l.fn.cursor l.cursor (IsDigits l.value)
    × ((n : ℕ) (u : Bytes) → Part (rest l.fn.cursor) (0x7D ∷ u) (λ t. number 16 t ≡ Some n)
    → Left 16 0x10_FFFF l.value n (0x7D ∷ u) (rest l.cursor))

abbrev pub decreases-loop-cursor : goal.decreases-loop-cursor
decreases-loop-cursor l = length (rest l.cursor)
