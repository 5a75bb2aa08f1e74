-- Searches: what they read of an input, and what they find.
use Rattle.std.specs.Prelude.{◌≡◌, ◌≤◌, ℕ, ◌+◌, ◌-◌, Bool, true, false, cond, Option, Some, None}
use Rattle.std.specs.Prelude.{List, length, option_map, reverse, slice_get}
use Rattle.std.specs.List.{slice_range}
use Rattle.std.specs.Option.{IfNone, IfSome}
use Rattle.determinize_below.specs.Semantics.{Nfa, Accepts, IsPreferredRun, Text, between}
use Rattle.determinize_below.specs.Search.{Asked, is_done}
use Rattle.determinize_below.specs.declared.search.Anchored.{Anchored}
use Rattle.determinize_below.specs.declared.search.Anchored.TheVariants.{No, Pattern, Yes}
use Rattle.determinize_below.specs.declared.search.HalfMatch.{HalfMatch}
use Rattle.determinize_below.specs.declared.search.MatchKind.{MatchKind}
use Rattle.determinize_below.specs.declared.search.MatchKind.TheVariants.{All, LeftmostFirst}
use Rattle.determinize_core.specs.Chain.{chain}
use Rattle.determinize_core.specs.LastMatch.{IsFarthestMatch, IsPreferredMatch, last_match}
use Rattle.determinize_start.specs.StartKinds.{byte_before}

-- the last match of the walk from an NFA state over a text, in words of runs too; it ends within
-- the text
pub record IsSearch (nfa : Nfa) (kind : MatchKind) (start : ℕ) (text : Text)
    (found : Option HalfMatch) : Type 0 where
  pub last : found ≡ last_match (chain nfa kind start text)
  pub preferred : kind ≡ LeftmostFirst → IsPreferredMatch nfa start text found
  pub farthest : kind ≡ All → IsFarthestMatch nfa start text found
  pub within : IfSome found (λ m. m.offset ≤ length text.bytes)

-- whether there is a start for a search in this anchored mode: none for `Anchored::Pattern`
abbrev pub has_start : Anchored → Bool
has_start No = true
has_start Yes = true
has_start (Pattern pattern) = false

-- the state that a search starts from, where it has a start
abbrev pub start_for : Nfa → Anchored → ℕ
start_for nfa No = nfa.start_unanchored
start_for nfa _ = nfa.start_anchored

-- bytes in reading order: from the last to the first in reverse
abbrev pub in_order : Bool → List ℕ → List ℕ
in_order false bytes = bytes
in_order true bytes = reverse bytes

-- what a search of a range reads: its bytes, with the bytes before and after it
abbrev pub text_of : Bool → Asked → Text
text_of false asked = between (byte_before asked.haystack asked.start)
    (slice_range asked.haystack asked.start asked.end) (slice_get asked.haystack asked.end)
text_of true asked = between (slice_get asked.haystack asked.end)
    (reverse (slice_range asked.haystack asked.start asked.end))
    (byte_before asked.haystack asked.start)

-- the index in the haystack after `read` bytes
abbrev pub index_after : Bool → Asked → ℕ → ℕ
index_after false asked read = asked.start + read
index_after true asked read = asked.end - read

-- a match of that text, in the haystack
abbrev pub in_haystack : Bool → Asked → HalfMatch → HalfMatch
in_haystack backward asked m = record m { offset = index_after backward asked m.offset }

-- the result for an input: that of a search of its text, in the haystack
abbrev pub found_in : Nfa → Asked → Option HalfMatch → Option HalfMatch
found_in nfa asked found =
    cond (is_done asked) None (option_map (in_haystack nfa.reverse asked) found)

-- the last match of the walk over the text of an input
unfoldable pub last_in : Nfa → MatchKind → Asked → Option HalfMatch
last_in nfa kind asked =
    found_in nfa asked (last_match (chain nfa kind (start_for nfa asked.anchored)
    (text_of nfa.reverse asked)))

-- some run over the text of an input accepts
abbrev pub HasMatch : Nfa → Asked → Type 0
HasMatch nfa asked = (cs : List ℕ) × (i : ℕ) × (pattern : ℕ)
    × Accepts nfa (text_of nfa.reverse asked) (start_for nfa asked.anchored) cs i pattern

-- the match is that of the most preferred of all accepting runs, its offset counted in the haystack
abbrev pub IsPreferredIn : Nfa → Asked → HalfMatch → Type 0
IsPreferredIn nfa asked m = (cs : List ℕ) × (i : ℕ) × (m.offset ≡ index_after nfa.reverse asked i)
    × IsPreferredRun nfa (text_of nfa.reverse asked) (start_for nfa asked.anchored) cs i m.pattern

-- the match is that of the best run at the last position where any run accepts, its offset counted
-- in the haystack
abbrev pub IsFarthestIn : Nfa → Asked → HalfMatch → Type 0
IsFarthestIn nfa asked m = (i : ℕ) × (m.offset ≡ index_after nfa.reverse asked i)
    × IsFarthestMatch nfa (start_for nfa asked.anchored) (text_of nfa.reverse asked)
    (Some record { pattern = m.pattern; offset = i })

-- what a search of an input returns: the last match of the walk, in words of runs too; `None` only
-- if no run accepts; and a match is in the range
pub record IsSearchResult (nfa : Nfa) (kind : MatchKind) (asked : Asked) (found : Option HalfMatch)
    : Type 0
  where
    pub last : found ≡ last_in nfa kind asked
    pub preferred : kind ≡ LeftmostFirst → IfSome found (λ m. IsPreferredIn nfa asked m)
    pub farthest : kind ≡ All → IfSome found (λ m. IsFarthestIn nfa asked m)
    pub none : is_done asked ≡ false → IfNone found (HasMatch nfa asked → ⊥)
    pub within : IfSome found (λ m. (asked.start ≤ m.offset) × (m.offset ≤ asked.end))
