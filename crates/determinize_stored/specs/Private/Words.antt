-- Bytes as numbers.
use Rattle.std.specs.Prelude.{ℕ, List, [], ◌∷◌}
use Rattle.std.specs.Int.{from_le_bytes, w32}

-- the numbers that each four bytes are, the lowest first; one to three bytes at the end are none
abbrev pub words_in : List ℕ → List ℕ
words_in (a ∷ b ∷ c ∷ d ∷ bytes) = from_le_bytes w32 (a ∷ b ∷ c ∷ d ∷ []) ∷ words_in bytes
words_in _ = []
