-- The match of a scan that nothing that follows can change.
use Rattle.std.specs.Prelude.{◌≡◌, ◌∷◌, ℕ, List, None, Option, [], option_map}
use Rattle.determinize_below.specs.Edges.{pattern_of}
use Rattle.determinize_below.specs.Semantics.{Nfa}
use Rattle.determinize_below.specs.declared.search.HalfMatch.{HalfMatch}
use Rattle.determinize_engine.specs.Scans.{Scanned}

-- without an NFA state the last match; or else that of the first NFA state, if it is a `Match`,
-- which ends after the bytes that were read
abbrev pub certain_after : Nfa → ℕ → Option HalfMatch → List ℕ → Option HalfMatch
certain_after nfa read last [] = last
certain_after nfa read last (first ∷ others) =
    option_map (λ pattern. record { pattern = pattern; offset = read }) (pattern_of nfa first)

-- the match that is certain where a scan is
abbrev pub certain_match : Nfa → Scanned → Option HalfMatch
certain_match nfa s = certain_after nfa s.read s.last s.state.states

-- no match is certain yet
abbrev pub IsUnsettled : Nfa → Scanned → Type 0
IsUnsettled nfa s = certain_match nfa s ≡ None
