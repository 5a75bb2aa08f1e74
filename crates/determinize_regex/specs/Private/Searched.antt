-- The search of a regex, the lazy DFA of a set, and the search of a stream.
use Rattle.std.specs.Prelude.{◌≡◌, ◌≤◌, ℕ, List, false, length}
use Rattle.determinize_below.specs.Edges.{pattern_count}
use Rattle.determinize_below.specs.Nfa.{IsAccepted}
use Rattle.determinize_below.specs.Semantics.{Nfa}
use Rattle.determinize_below.specs.declared.search.MatchKind.TheVariants as kinds
use Rattle.determinize_find.specs.Regexes.{RegexValue as Searched}
use Rattle.determinize_find.specs.Streams.{IsSearching, Streamed}
use Rattle.determinize_lazy.specs.Cache.{LazyValue}
use Rattle.determinize_nfa.specs.Reversal.{most_states}
use Rattle.determinize_pattern.specs.declared.pattern.Pattern.{Pattern}
use Rattle.determinize_regex.specs.Regexes.{IsRegex, RegexValue}

-- the value of patterns, their NFA and the limit of a cache
abbrev pub value_of : List Pattern → Nfa → ℕ → RegexValue
value_of patterns nfa limit =
    record { patterns = patterns; terminator = nfa.terminator; nfa = nfa; limit = limit }

-- it is a search for these patterns, with the reverse that `reversed` makes, and its two caches
-- have one limit
pub record IsSearchOf (patterns : List Pattern) (search : Searched) : Type 0 where
  pub regex : IsRegex (value_of patterns search.nfa search.limit)
  pub limits : search.limit_backward ≡ search.limit
  pub size : length search.backward.states ≤ most_states search.nfa
  pub pattern : pattern_count search.backward ≡ 1

-- it is the DFA of these patterns that keeps all matches
pub record IsSet (patterns : List Pattern) (lazy : LazyValue) : Type 0 where
  pub regex : IsRegex (value_of patterns lazy.nfa lazy.limit)
  pub kind : lazy.kind ≡ kinds.All
  pub forward : lazy.nfa.reverse ≡ false

-- the search that is under way in the pieces, if any, is one for the patterns
pub record IsStreaming (r : RegexValue) (pieces : Streamed) : Type 0 where
  pub regex : IsRegex r
  pub accepted : IsAccepted r.nfa
  pub under_way : IsSearching r.nfa pieces
