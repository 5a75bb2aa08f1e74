-- The match that a walk by a DFA finds where it begins.
use Rattle.std.specs.Prelude.{◌≡◌, ◌-◌, ℕ, Option, option_map}
use Rattle.determinize_below.specs.Semantics.{Nfa, Text}
use Rattle.determinize_below.specs.declared.search.HalfMatch.{HalfMatch}
use Rattle.determinize_below.specs.declared.search.MatchKind.{MatchKind}
use Rattle.determinize_below.specs.declared.search.MatchKind.TheVariants.{All, LeftmostFirst}
use Rattle.determinize_core.specs.LastMatch.{IsFarthestMatch}
use Rattle.determinize_find.specs.Private.BestAt.{IsBestAt, from_index}
use Rattle.determinize_nfa.specs.Runs.{since}

-- a match, some positions earlier
abbrev pub earlier : ℕ → HalfMatch → HalfMatch
earlier k m = record m { offset = m.offset - k }

-- the match is the longest one of the rest of the text, with the pattern of the best run up to its
-- end; `None` if no match begins at the position
abbrev pub IsLongestAt : Nfa → Text → ℕ → Option HalfMatch → Type 0
IsLongestAt nfa text k found =
    IsFarthestMatch nfa nfa.start_anchored (since text k) (option_map (earlier k) found)

-- the match that begins at a position: the most preferred one, or the longest one
pub record IsFoundAt (nfa : Nfa) (kind : MatchKind) (text : Text) (k : ℕ)
    (found : Option HalfMatch) : Type 0 where
  pub preferred : kind ≡ LeftmostFirst → IsBestAt nfa text k (option_map (from_index k) found)
  pub longest : kind ≡ All → IsLongestAt nfa text k found
