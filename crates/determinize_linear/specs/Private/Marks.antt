-- Marks of pairs of a position and a state: a list for each position, with a mark for each state.
use Rattle.std.specs.Prelude.{ℕ, Bool, List, [], false, length, replicate, slice_index_or, slice_set, true}

-- whether the pair is marked; a pair out of range is not
abbrev pub is_marked : List (List Bool) → ℕ × ℕ → Bool
is_marked rows p = slice_index_or (slice_index_or rows p.0 []) p.1 false

-- the marks with one more
abbrev pub with_mark : List (List Bool) → ℕ → ℕ → List (List Bool)
with_mark rows at id = slice_set rows at (slice_set (slice_index_or rows at []) id true)

-- the marks without those of a position
abbrev pub without_marks : List (List Bool) → ℕ → List (List Bool)
without_marks rows at = slice_set rows at (replicate (length (slice_index_or rows at [])) false)
