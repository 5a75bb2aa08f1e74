-- Decoding a varint.
use Rattle.std.specs.Prelude.{ℕ, ◌+◌, ◌-◌, ◌*◌, Option, Some, None, List, [], ◌∷◌, nat_lt, if◌then◌else◌}

-- the varint at the start of the bytes, and the bytes after it, where a part `low` is read and the
-- next group has this weight
abbrev pub read : ℕ → ℕ → List ℕ → Option (ℕ × List ℕ)
read low weight [] = None
read low weight (byte ∷ bytes) =
    if nat_lt 268435456 weight then None
    else (if nat_lt byte 128 then Some (low + weight * byte, bytes)
    else read (low + weight * (byte - 128)) (weight * 128) bytes)
