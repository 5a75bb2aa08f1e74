-- How far the bytes are scanned for ranges.
use Rattle.std.specs.Prelude.{◌-◌, ◌++◌, ◌<◌, ◌≡◌, ◌≤◌, ℕ, Bool, List, Some, [], ◌∷◌, cond, nat_lt, suc, true}
use Rattle.determinize_pattern.specs.Classes.{is_apart}
use Rattle.determinize_pattern.specs.Meaning.{is_in}

-- where a range may begin after these
abbrev pub after_all : ℕ → List (ℕ × ℕ) → ℕ
after_all low [] = low
after_all low (r ∷ rs) = after_all (suc (suc r.1)) rs

-- the ranges have the bytes below `start` that pass the test, and those from it to `i` pass
pub record IsScanned (test : ℕ → Bool) (ranges : List (ℕ × ℕ)) (start i : ℕ) : Type 0 where
  pub apart : is_apart 0 ranges ≡ true
  pub after : after_all 0 ranges ≤ start
  pub begun : start ≤ i
  pub below : (b : ℕ) → b < start → is_in ranges (Some b) ≡ test b
  pub unbroken : (b : ℕ) → start ≤ b → b < i → test b ≡ true

-- with the range from `start` to before `end`, unless it is empty
abbrev pub with_range : List (ℕ × ℕ) → ℕ → ℕ → List (ℕ × ℕ)
with_range ranges start end = cond (nat_lt start end) (ranges ++ (start, end - 1) ∷ []) ranges
