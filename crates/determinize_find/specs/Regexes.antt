-- What a `Regex` is seen as.
use Rattle.std.specs.Prelude.{◌≡◌, ℕ, false}
use Rattle.determinize_below.specs.Semantics.{Nfa}
use Rattle.determinize_below.specs.declared.search.MatchKind.TheVariants.{All, LeftmostFirst}
use Rattle.determinize_engine.specs.Engines.{EngineValue}
use Rattle.determinize_nfa.specs.Prefix.{HasPrefix}
use Rattle.determinize_nfa.specs.Reversal.{IsReverseOf}

-- the NFA that reads forward and the one that reads backward, and the greatest numbers of states of
-- the DFA that finds ends and of the one that finds starts
pub record RegexValue : Type 0 where
  pub nfa : Nfa
  pub backward : Nfa
  pub limit : ℕ
  pub limit_backward : ℕ

-- the value of a DFA that finds ends and of one that finds starts
abbrev pub value_of : EngineValue → EngineValue → RegexValue
value_of forward backward = record {
  nfa = forward.nfa;
  backward = backward.nfa;
  limit = forward.limit;
  limit_backward = backward.limit;
}

-- the value of two NFAs, with the same limit for both DFAs
abbrev pub with_limit : Nfa → Nfa → ℕ → RegexValue
with_limit nfa backward limit =
    record { nfa = nfa; backward = backward; limit = limit; limit_backward = limit }

-- the DFA that finds ends
pub record IsForward (value : RegexValue) (engine : EngineValue) : Type 0 where
  pub nfa : engine.nfa ≡ value.nfa
  pub forward : value.nfa.reverse ≡ false
  pub prefix : HasPrefix value.nfa
  pub kind : engine.kind ≡ LeftmostFirst
  pub limit : engine.limit ≡ value.limit

-- the DFA that reads backward and finds starts
pub record IsBackward (value : RegexValue) (engine : EngineValue) : Type 0 where
  pub nfa : engine.nfa ≡ value.backward
  pub reverse : IsReverseOf engine.nfa value.nfa
  pub kind : engine.kind ≡ All
  pub limit : engine.limit ≡ value.limit_backward
