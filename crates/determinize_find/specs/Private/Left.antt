-- A measure of the matches that may follow.
use Rattle.std.specs.Prelude.{◌+◌, ◌-◌, ℕ, None, Option, Some}

-- the number of indices from the start to the end of the range, and one more before the first match
abbrev pub left : ℕ → ℕ → Option ℕ → ℕ
left end start None = (end + 1 - start) + 1
left end start (Some last) = end + 1 - start
