-- The laws of `laws.rt`.
use Rattle.std.specs.Prelude.{◌≡◌, List}
use Rattle.determinize_below.specs.Search.{Asked}
use Rattle.determinize_below.specs.Semantics.{Nfa}
use Rattle.determinize_below.specs.declared.search.Match.{Match}
use Rattle.determinize_linear.specs.Tokens.{AreTokens}

-- an input has at most one list of tokens
abbrev pub EachTokensAreOne : Type 0
EachTokensAreOne = (nfa : Nfa) (asked : Asked) (ms ns : List Match)
    → AreTokens nfa asked ms → AreTokens nfa asked ns → ms ≡ ns
