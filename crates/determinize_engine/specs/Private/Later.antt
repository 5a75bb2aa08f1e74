-- The last match of a text that is searched in two parts.
use Rattle.std.specs.Prelude.{ℕ, ◌+◌, Option, List, option_map}
use Rattle.std.specs.Option.{option_or}
use Rattle.determinize_below.specs.Semantics.{Nfa}
use Rattle.determinize_below.specs.declared.search.MatchKind.{MatchKind}
use Rattle.determinize_below.specs.declared.search.HalfMatch.{HalfMatch}
use Rattle.determinize_core.specs.Chain.{future}
use Rattle.determinize_core.specs.LastMatch.{last_match}
use Rattle.determinize_core.specs.Value.{Value}

-- a match of what follows after n bytes, in the whole text
abbrev pub later_by : ℕ → HalfMatch → HalfMatch
later_by read m = record m { offset = read + m.offset }

-- the last match over the units that follow n others, from that over these
abbrev pub last_from : Nfa → MatchKind → ℕ → Option HalfMatch → Value → List (Option ℕ)
    → Option HalfMatch
last_from nfa kind n last v us =
    option_or (option_map (later_by n) (last_match (future nfa kind v us))) last
