-- Classes of bytes, each with its span, from its least byte to its greatest, and with its runs,
-- ranges of bytes of one class.
use Rattle.std.specs.Prelude.{◌≡◌, ℕ, ◌<◌, ◌≤◌, List, slice_index}
use Rattle.determinize_below.specs.ByteClasses.{AreClasses, Classes, class_of}

-- no byte is greater than the last one of its class, and the bytes of a run are of one class; that
-- runs are the longest such ranges is not needed
pub record AreSpans (p : Classes) (lasts runs : List ℕ) : Type 0 where
  pub sound : AreClasses p
  pub last : (b : ℕ) → b < 256 → b ≤ slice_index lasts (class_of p b)
  pub run : (b c : ℕ) → b ≤ c → c ≤ slice_index runs b → class_of p c ≡ class_of p b
