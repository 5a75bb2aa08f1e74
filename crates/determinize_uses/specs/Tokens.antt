-- The tokens of a lexer.
use Rattle.std.specs.Prelude.{ℕ, List, length}
use Rattle.determinize_below.specs.Semantics.{Nfa}
use Rattle.determinize_below.specs.declared.search.Anchored.TheVariants.{Yes}
use Rattle.determinize_below.specs.declared.search.Match.{Match}
use Rattle.determinize_engine.specs.Searches.{IsFarthestIn}

-- the token is the longest one that begins where it does, with the pattern of the best run that
-- ends there
abbrev pub IsLongest : Nfa → List ℕ → Match → Type 0
IsLongest nfa text m = IsFarthestIn nfa record {
  haystack = text;
  start = m.start;
  end = length text;
  anchored = Yes;
} record { pattern = m.pattern; offset = m.end }
