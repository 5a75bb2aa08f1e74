-- The end of the leftmost match of an input.
use Rattle.std.specs.Prelude.{◌≡◌, Option, option_map}
use Rattle.determinize_below.specs.Semantics.{Nfa}
use Rattle.determinize_below.specs.Search.{Asked}
use Rattle.determinize_below.specs.declared.search.HalfMatch.{HalfMatch}
use Rattle.determinize_below.specs.declared.search.Match.{Match}
use Rattle.determinize_find.specs.Laws.{end_of}
use Rattle.determinize_find.specs.LeftmostIn.{IsLeftmostIn}

-- the pattern and the end are those of the leftmost match
pub record IsEnding (nfa : Nfa) (asked : Asked) (found : Option HalfMatch) : Type 0 where
  pub match : Option Match
  pub leftmost : IsLeftmostIn nfa asked match
  pub is : found ≡ option_map end_of match
