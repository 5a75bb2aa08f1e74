-- The positions that a cursor over the matches of an input may have.
use Rattle.std.specs.Prelude.{◌≡◌, ℕ, Option, Some, true}
use Rattle.determinize_below.specs.Search.{Asked}
use Rattle.determinize_engine.specs.Searches.{has_start}

-- the rest of the input starts where the match before it ended
pub record IsPlace (asked : Asked) (before : Option ℕ) : Type 0 where
  pub start : has_start asked.anchored ≡ true
  pub last : (end : ℕ) → before ≡ Some end → end ≡ asked.start
