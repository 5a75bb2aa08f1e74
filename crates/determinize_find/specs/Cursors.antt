-- What a `Searcher` is seen as.
use Rattle.std.specs.Prelude.{ℕ, None, Option, Some}
use Rattle.determinize_below.specs.Search.{Asked}
use Rattle.determinize_below.specs.declared.search.Match.{Match}
use Rattle.determinize_find.specs.Matches.{from}

-- the rest of the input, and where the match before it ended
pub record SearcherValue : Type 0 where
  pub asked : Asked
  pub before : Option ℕ

-- the cursor after the next match
abbrev pub after_match : SearcherValue → Option Match → SearcherValue
after_match s None = s
after_match s (Some m) = record { asked = from s.asked m.end; before = Some m.end }
