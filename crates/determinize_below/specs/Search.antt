-- The configuration of a search.
use Rattle.std.specs.Prelude.{ℕ, Bool, true, false, List, nat_lt}
use Rattle.determinize_below.specs.declared.search.Anchored.{Anchored}
use Rattle.determinize_below.specs.declared.search.Anchored.TheVariants.{No}
use Rattle.determinize_below.specs.declared.search.MatchKind.{MatchKind}
use Rattle.determinize_below.specs.declared.search.MatchKind.TheVariants.{All, LeftmostFirst}

-- whether a search continues after the first match
abbrev pub continues : MatchKind → Bool
continues All = true
continues LeftmostFirst = false

-- whether a match must begin where the search begins
abbrev pub is_anchored : Anchored → Bool
is_anchored No = false
is_anchored _ = true

-- the value of an `Input`: a haystack, the range to search, and the anchored mode
pub record Asked : Type 0 where
  pub haystack : List ℕ
  pub start : ℕ
  pub end : ℕ
  pub anchored : Anchored

-- whether the range starts past its end, so that nothing is left to search
abbrev pub is_done : Asked → Bool
is_done asked = nat_lt asked.end asked.start
