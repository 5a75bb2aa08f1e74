-- How much memory the caches of a regex take.
use Rattle.std.specs.Prelude.{◌≡◌, ℕ, ◌+◌, ◌*◌, length, min}
use Rattle.std.below.core.specs.declared.int.usize.TheConstants.{MAX}
use Rattle.determinize_below.specs.Edges.{pattern_count}
use Rattle.determinize_below.specs.Semantics.{Nfa}
use Rattle.determinize_lazy.specs.Cache.{LazyValue}
use Rattle.determinize_nfa.specs.Reversal.{IsReverseOf, most_states}
use Rattle.determinize_regex.specs.Regexes.{RegexValue}
use Rattle.determinize_table.specs.CacheBytes.{cache_bytes}

-- the most that `memory_usage` returns for two caches of at most `limit` states each, of the DFAs
-- of an NFA and of its reverse, in bytes
abbrev pub regex_bytes : ℕ → Nfa → ℕ
regex_bytes limit nfa =
    limit * (2268 + 8 * pattern_count nfa + 10 * (length nfa.states + most_states nfa))

-- the cached states of a lazy DFA over this NFA with this limit take this many bytes
pub record HasBytes (nfa : Nfa) (limit bytes : ℕ) : Type 0 where
  pub cache : LazyValue
  pub over : cache.nfa ≡ nfa
  pub most : cache.limit ≡ limit
  pub is : bytes ≡ cache_bytes cache.states

-- those of both lazy DFAs of a regex, over its NFA and over a reverse of it, take this many
pub record AreBytesOf (regex : RegexValue) (bytes : ℕ) : Type 0 where
  pub forward : ℕ
  pub backward : ℕ
  pub reverse : Nfa
  pub is_reverse : IsReverseOf reverse regex.nfa
  pub of_forward : HasBytes regex.nfa regex.limit forward
  pub of_backward : HasBytes reverse regex.limit backward
  pub sum : bytes ≡ min (forward + backward) MAX
