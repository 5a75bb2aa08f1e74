-- The tokens of an input.
use Rattle.std.specs.Prelude.{◌≡◌, ◌-◌, ◌+◌, ◌<◌, ℕ, List, Some, [], ◌∷◌, false, length, min}
use Rattle.determinize_below.specs.Search.{Asked}
use Rattle.determinize_below.specs.Semantics.{Accepts, Nfa}
use Rattle.determinize_below.specs.declared.search.Match.{Match}
use Rattle.determinize_core.specs.LastMatch.{IsFarthestMatch}
use Rattle.determinize_engine.specs.Searches.{text_of}
use Rattle.determinize_find.specs.Matches.{from}

-- the token where a range starts: the longest match that begins there, of one byte or more; of the
-- patterns that match up to its end it has that of the best run
pub record IsToken (nfa : Nfa) (asked : Asked) (m : Match) : Type 0 where
  pub start : m.start ≡ asked.start
  pub nonempty : m.start < m.end
  pub longest : IsFarthestMatch nfa nfa.start_anchored (text_of false asked)
      (Some record { pattern = m.pattern; offset = m.end - m.start })

-- no match of one byte or more begins where the range starts
abbrev pub HasNoToken : Nfa → Asked → Type 0
HasNoToken nfa asked = (cs : List ℕ) (i pattern : ℕ)
    → Accepts nfa (text_of false asked) nfa.start_anchored cs i pattern → i ≡ 0

-- the tokens from the start of a range on: each begins where the one before it ends, and none
-- begins where the last one ends
abbrev pub AreTokens : Nfa → Asked → List Match → Type 0
AreTokens nfa asked [] = HasNoToken nfa asked
AreTokens nfa asked (m ∷ ms) = IsToken nfa asked m × AreTokens nfa (from asked m.end) ms

-- where the last token ends; where the range starts, if there is none
abbrev pub end_of_last : ℕ → List Match → ℕ
end_of_last start [] = start
end_of_last start (m ∷ ms) = end_of_last m.end ms

-- one step for each token and for each byte that they cover, and one more if they end before the
-- range does
abbrev pub least_steps : Asked → List Match → ℕ
least_steps asked ms = length ms + (min (end_of_last asked.start ms + 1) asked.end - asked.start)
