-- Classes of bytes as lists of ranges.
use Rattle.std.specs.Prelude.{◌&&◌, ◌<◌, ◌≡◌, ℕ, Bool, List, Some, [], ◌∷◌, cond, map, nat_le, not, suc, true}
use Rattle.determinize_pattern.specs.Meaning.{is_in}
use Rattle.determinize_pattern.specs.declared.class.ClassBytesRange.{ClassBytesRange}

-- the first and the last byte of each range
abbrev pub pairs : List ClassBytesRange → List (ℕ × ℕ)
pairs ranges = map (λ r. (r.start, r.end)) ranges

-- whether no range is empty or begins before `low`, and before each later one there is a byte in
-- none of them
abbrev pub is_apart : ℕ → List (ℕ × ℕ) → Bool
is_apart low [] = true
is_apart low (r ∷ rs) = nat_le low r.0 && (nat_le r.0 r.1 && is_apart (suc (suc r.1)) rs)

-- the bytes of the class are those that pass the test
abbrev pub HasBytes : (ℕ → Bool) → List (ℕ × ℕ) → Type 0
HasBytes test class = (b : ℕ) → b < 256 → is_in class (Some b) ≡ test b

-- whether the byte or the character is in one of the ranges, or in none if `negated` is set
abbrev pub is_chosen : List (ℕ × ℕ) → Bool → ℕ → Bool
is_chosen ranges negated b = cond negated (not (is_in ranges (Some b))) (is_in ranges (Some b))
