-- The greatest bytes of classes and the last bytes of runs, of the bytes below a number.
-- Main statements: below-none, below-next, below-all.
-- Used by: `ClassSpans::new`.
-- Idea: bytes ascend, so the one that is written last is the greatest so far, of its class and of its run.
use Rattle.determinize_table.proofs.Common.{arith, length, List, refl, replicate, slice_index, slice_set, ℕ, ◌+◌, ◌<◌, ◌≡◌, ◌⊎◌}
use Rattle.std.proofs.Common.{◌≤◌}
use Rattle.std.proofs.lemmas.Grind.{get_or-set_at}
use Rattle.std.proofs.lemmas.List.{places}
use Rattle.determinize_below.specs.ByteClasses.{AreClasses, class_of, Classes}
use Rattle.determinize_table.proofs.Common.{length-set}
use Rattle.determinize_table.specs.Spans.{AreSpans}

-- what `AreSpans` says of the bytes below n; the last run of these begins at `first`
pub record AreSpansBelow (p : Classes) (n first : ℕ) (lasts runs : List ℕ) : Type 0 where
  pub lasts_count : length lasts ≡ 256
  pub last : (b : ℕ) → b < n → b ≤ slice_index lasts (class_of p b)
  pub runs_count : length runs ≡ 256
  pub first_small : first < 256
  pub alike : (c : ℕ) → first ≤ c → c < n → class_of p c ≡ class_of p first
  pub run : (b c : ℕ) → b ≤ c → c ≤ slice_index runs b → class_of p c ≡ class_of p b

zeros : (n b : ℕ) → slice_index (replicate n 0) b ≡ 0
zeros n b = grind (arith, places)

pub below-none : (p : Classes) → AreSpansBelow p 0 0 (replicate 256 0) (replicate 256 0)
below-none p = record {
  lasts_count = refl;
  last = λ b h. absurd (omega (arith, h));
  runs_count = refl;
  first_small = omega arith;
  alike = λ c _ h. absurd (omega (arith, h));
  run = λ b c up down. let one : c ≡ b = omega (arith, up, down, zeros 256 b) in rw one refl;
}

module _ (p : Classes) (is : AreClasses p) (n first : ℕ) (lasts runs : List ℕ)
    (so_far : AreSpansBelow p n first lasts runs) where
  -- one byte more, with which a run begins or which is of the class of the bytes before it
  pub below-next : (now : ℕ) → n < 256 → (now ≡ n) ⊎ ((now ≡ first) × (class_of p n ≡ class_of p first))
      → AreSpansBelow p (n + 1) now (slice_set lasts (class_of p n) n) (slice_set runs now n)
  below-next now small begins = record {
    lasts_count = grind (arith, length-set lasts (class_of p n) n, so_far.lasts_count);
    last = λ b h. grind (
      arith,
      places,
      get_or-set_at {X = ℕ},
      so_far.last b,
      so_far.lasts_count,
      is.within n small,
      is.few,
    );
    runs_count = grind (arith, length-set runs now n, so_far.runs_count);
    first_small = grind (arith, begins, small, so_far.first_small);
    alike = alike;
    run = λ b c up down. grind (arith, places, get_or-set_at {X = ℕ}, alike c, so_far.run b c, so_far.runs_count);
  }
    where
      alike : (c : ℕ) → now ≤ c → c < n + 1 → class_of p c ≡ class_of p now
      alike c up down = grind (arith, begins, so_far.alike c)

  pub below-all : 256 ≤ n → AreSpans p lasts runs
  below-all all = record {
    sound = is;
    last = λ b h. so_far.last b (omega (arith, all, h));
    run = so_far.run;
  }
