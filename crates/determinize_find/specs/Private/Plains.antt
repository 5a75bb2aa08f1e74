-- An engine that finds the most preferred match from an index on.
use Rattle.std.specs.Prelude.{◌≡◌, false}
use Rattle.determinize_below.specs.Semantics.{Nfa}
use Rattle.determinize_below.specs.declared.search.MatchKind.TheVariants.{LeftmostFirst}
use Rattle.determinize_engine.specs.Engines.{EngineValue}

-- it searches for the most preferred match of this NFA, which reads forward
pub record IsPlain (nfa : Nfa) (engine : EngineValue) : Type 0 where
  pub same : nfa ≡ engine.nfa
  pub kind : engine.kind ≡ LeftmostFirst
  pub reads_forward : engine.nfa.reverse ≡ false
