-- How much memory a cache takes at most.
use Rattle.std.specs.Prelude.{ℕ, ◌+◌, ◌*◌, length}
use Rattle.determinize_below.specs.Edges.{pattern_count}
use Rattle.determinize_below.specs.Semantics.{Nfa}

-- the most memory of a cache of at most `limit` states of the DFA of an NFA, in bytes: 1104 for
-- each, and twice its encoding of at most 13 + 4 p + 5 n bytes, for p patterns and n NFA states
abbrev pub most_bytes : ℕ → Nfa → ℕ
most_bytes limit nfa = limit * (1130 + 8 * pattern_count nfa + 10 * length nfa.states)
