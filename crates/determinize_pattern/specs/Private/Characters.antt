-- Characters as numbers in base 64, runs of them, and the branches of a choice that match them.
use Rattle.std.specs.List.{list_any}
use Rattle.std.specs.Prelude.{◌&&◌, ◌*◌, ◌+◌, ◌-◌, ◌/◌, ◌%◌, ◌<◌, ◌≡◌, ◌≤◌, ◌↔◌, ◌⊎◌, ℕ, Bool, List, Some, false, nat_le, nat_lt, slice_get, suc, true, zero}
use Rattle.determinize_below.specs.Semantics.{Text}
use Rattle.determinize_pattern.specs.Classes.{is_chosen}
use Rattle.determinize_pattern.specs.Meaning.{Matches, Re, is_in}
use Rattle.determinize_pattern.specs.Patterns.{choice}
use Rattle.determinize_pattern.specs.declared.utf8.Run.{Run}

-- the bytes from i to j are `lead` plus the first digit of v in base 64, and 128 plus each of the
-- `count` digits after it
abbrev pub IsWrittenFrom : List ℕ → ℕ → ℕ → ℕ → ℕ → ℕ → Type 0
IsWrittenFrom bytes lead zero v i j = (slice_get bytes i ≡ Some (lead + v)) × (j ≡ suc i)
IsWrittenFrom bytes lead (suc count) v i j = (l : ℕ) × IsWrittenFrom bytes lead count (v / 64) i l
    × (slice_get bytes l ≡ Some (128 + v % 64)) × (j ≡ suc l)

-- the least number that cannot be written so
abbrev pub capacity : ℕ → ℕ → ℕ
capacity lead zero = 256 - lead
capacity lead (suc count) = capacity lead count * 64

-- how many numbers have this many digits
abbrev pub numbers_of : ℕ → ℕ
numbers_of zero = 1
numbers_of (suc count) = numbers_of count * 64

-- the bytes from i to j are those of a number of which P says something
abbrev pub IsNumberOf : ℕ → ℕ → (ℕ → Type 0) → List ℕ → ℕ → ℕ → Type 0
IsNumberOf lead count P bytes i j = (v : ℕ) × P v × IsWrittenFrom bytes lead count v i j

-- whether the number is from start on and below end
abbrev pub is_from : ℕ → ℕ → ℕ → Bool
is_from start end c = nat_le start c && nat_lt c end

-- whether the number is in one of the runs
abbrev pub in_runs : List Run → ℕ → Bool
in_runs runs v = list_any (λ r. is_from r.start r.end v) runs

-- the run is not empty
abbrev pub HasNumber : Run → Type 0
HasNumber run = run.start < run.end

-- the numbers of the runs from `low` on and below `high`, each less `base`
abbrev pub ArePart : List Run → ℕ → ℕ → ℕ → List Run → Type 0
ArePart runs low high base part =
    (v : ℕ) → in_runs part v ≡ (is_from low high (base + v) && in_runs runs (base + v))

-- the branches match what they matched before, and what is added
pub record Adds (Added : List ℕ → ℕ → ℕ → Type 0) (old new : List Re) : Type 0 where
  pub each : (t : ℕ) (text : Text) (i j : ℕ) → Matches t text (choice new) i j
      ↔ (Matches t text (choice old) i j ⊎ Added text.bytes i j)

-- after a sweep over the ranges, the last run of numbers that are in one of them is from `start` on
-- and below `end`, and the runs have the numbers before it that are chosen
pub record IsSwept (ranges : List (ℕ × ℕ)) (negated : Bool) (start end : ℕ) (runs : List Run)
    : Type 0 where
  pub begun : start ≤ end
  pub run : (c : ℕ) → start ≤ c → c < end → is_in ranges (Some c) ≡ true
  pub after : (c : ℕ) → end ≤ c → is_in ranges (Some c) ≡ false
  pub found : (c : ℕ) → in_runs runs c ≡ (nat_lt c start && is_chosen ranges negated c)
