-- What a search engine is seen as.
use Rattle.std.specs.Prelude.{ℕ}
use Rattle.determinize_below.specs.Semantics.{Nfa}
use Rattle.determinize_below.specs.declared.search.MatchKind.{MatchKind}

-- the NFA and the match kind that it searches for, and the greatest number of its states
pub record EngineValue : Type 0 where
  pub nfa : Nfa
  pub kind : MatchKind
  pub limit : ℕ
