-- Matches that do not divide an encoded character of a text.
use Rattle.std.specs.Prelude.{◌||◌, ℕ, Bool, List, cond, length, nat_eq, nat_le, nat_lt, slice_get, true}
use Rattle.std.specs.Option.{option_map_or}
use Rattle.determinize_below.specs.declared.search.Match.{Match}

-- the text ends at the index, or a byte is there that is below 0x80 or above 0xBF, so it does not
-- continue a character
abbrev pub is_boundary : List ℕ → ℕ → Bool
is_boundary text i =
    option_map_or (λ b. nat_lt b 0x80 || nat_lt 0xBF b) (slice_get text i) (nat_eq i (length text))

-- an empty match is not inside a character
abbrev pub is_whole : List ℕ → Match → Bool
is_whole text m = cond (nat_le m.end m.start) (is_boundary text m.start) true
