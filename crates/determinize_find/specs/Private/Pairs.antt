-- Two engines, one of which reads backward.
use Rattle.std.specs.Prelude.{◌≡◌, Bool, false, true}
use Rattle.determinize_below.specs.declared.search.MatchKind.TheVariants.{All, LeftmostFirst}
use Rattle.determinize_engine.specs.Engines.{EngineValue}
use Rattle.determinize_nfa.specs.Prefix.{HasPrefix, HasPrefixApart}
use Rattle.determinize_nfa.specs.Reversal.{IsReverseOf}

-- one finds the end of the most preferred match, the other the farthest start of a match; the flag
-- is set only if the prefix of the NFA is apart
pub record IsPair (forward backward : EngineValue) (is_known_apart : Bool) : Type 0 where
  pub kind : forward.kind ≡ LeftmostFirst
  pub kind_backward : backward.kind ≡ All
  pub reads_forward : forward.nfa.reverse ≡ false
  pub prefix : HasPrefix forward.nfa
  pub apart : is_known_apart ≡ true → HasPrefixApart forward.nfa
  pub reverse : IsReverseOf backward.nfa forward.nfa
