-- Runs of numbers, and those of their numbers that are from one number to another.
-- Main statements: no_number, some_number, part_within, part_has.
-- Used by: the proof of `push_numbers` and the file Written.
-- Idea: a number of a part is a number of the runs less the base.
use Rattle.std.proofs.lemmas.Bool.Decides.{nat_tests}
use Rattle.std.proofs.lemmas.List.Elements.{All-head}
use Rattle.std.proofs.Common.{◌≡◌, ◌+◌, ◌<◌, ◌≤◌, ◌∷◌, ℕ, All, List, [], arith, false, length, refl, true}
use Rattle.determinize_pattern.specs.Private.Characters.{ArePart, HasNumber, in_runs}
use Rattle.determinize_pattern.specs.declared.utf8.Run.{Run}

pub no_number : (runs : List Run) → length runs ≡ 0 → (v : ℕ) → in_runs runs v ≡ false
no_number [] none v = refl
no_number (r ∷ rs) none v = absurd (omega (arith, none))

-- the first run has a number
pub some_number : (runs : List Run) → All HasNumber runs → 0 < length runs → (v : ℕ) × (in_runs runs v ≡ true)
some_number [] all l = absurd (omega arith)
some_number (r ∷ rs) all l = (r.start, grind (arith, nat_tests, All-head HasNumber r rs all))

module _ (runs part : List Run) (low high base v : ℕ) (h : ArePart runs low high base part) where
  pub part_within : in_runs part v ≡ true → (low ≤ base + v) × (base + v < high) × (in_runs runs (base + v) ≡ true)
  part_within e = (grind (arith, nat_tests, h v), grind (arith, nat_tests, h v), grind (arith, nat_tests, h v))

  pub part_has : low ≤ base + v → base + v < high → in_runs runs (base + v) ≡ true → in_runs part v ≡ true
  part_has l m e = grind (arith, nat_tests, h v)
