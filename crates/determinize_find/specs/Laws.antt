-- Laws of the leftmost match.
pub use Rattle.determinize_nfa.specs.Laws.{EachReadingIsMirrored, EachRunMoves, EachRunReadsForward}
use Rattle.std.specs.Prelude.{◌≡◌, ◌<◌, ◌≤◌, ◌++◌, ℕ, All, List, None, Option, Some, false, length, option_map, slice_get}
use Rattle.std.specs.List.{Contains}
use Rattle.determinize_below.specs.Nfa.{IsAccepted}
use Rattle.determinize_below.specs.Semantics.{Nfa, Text, between}
use Rattle.determinize_below.specs.Search.{Asked}
use Rattle.determinize_below.specs.declared.search.HalfMatch.{HalfMatch}
use Rattle.determinize_below.specs.declared.search.Match.{Match}
use Rattle.determinize_below.specs.declared.search.MatchKind.TheVariants.{LeftmostFirst}
use Rattle.determinize_core.specs.LastMatch.{IsPreferredMatch}
use Rattle.determinize_engine.specs.Scans.{IsScan, Scanned}
use Rattle.determinize_find.specs.Certain.{certain_match}
use Rattle.determinize_find.specs.Idle.{HasBegun, IsIdle, NothingBefore}
use Rattle.determinize_nfa.specs.Leftmost.{IsLeftmost}
use Rattle.determinize_find.specs.LeftmostIn.{IsLeftmostIn, is_anchored}
use Rattle.determinize_find.specs.Matches.{AreApart, AreMatches, BeginsAt, Covers}
use Rattle.determinize_nfa.specs.Prefix.{HasPrefix, HasPrefixApart}

-- a text has at most one leftmost match
abbrev pub EachLeftmostIsOne : Type 0
EachLeftmostIsOne = (nfa : Nfa) (text : Text) (latest : ℕ) (found other : Option Match)
    → IsLeftmost nfa text latest found → IsLeftmost nfa text latest other → found ≡ other

-- the pattern and the end of a match
abbrev pub end_of : Match → HalfMatch
end_of m = record { pattern = m.pattern; offset = m.end }

-- after the usual prefix, the preferred match over bytes is the end of the leftmost match
abbrev pub EachPreferredIsLeftmost : Type 0
EachPreferredIsLeftmost = (nfa : Nfa) → HasPrefix nfa
    → (text : Text) → All (λ b. b < 256) text.bytes
    → (found : Option HalfMatch) → IsPreferredMatch nfa nfa.start_unanchored text found
    → (m : Option Match) × IsLeftmost nfa text (length text.bytes) m × (found ≡ option_map end_of m)

-- from the anchored start, it is the end of the leftmost match that begins with the text
abbrev pub EachAnchoredIsLeftmost : Type 0
EachAnchoredIsLeftmost = (nfa : Nfa) (text : Text) (found : Option HalfMatch)
    → IsPreferredMatch nfa nfa.start_anchored text found
    → (m : Option Match) × IsLeftmost nfa text 0 m × (found ≡ option_map end_of m)

-- an input has at most one leftmost match
abbrev pub EachLeftmostInIsOne : Type 0
EachLeftmostInIsOne = (nfa : Nfa) (asked : Asked) (found other : Option Match)
    → IsLeftmostIn nfa asked found → IsLeftmostIn nfa asked other → found ≡ other

-- at most one list is that of all matches
abbrev pub EachMatchesAreOne : Type 0
EachMatchesAreOne = (nfa : Nfa) (asked : Asked) (before : Option ℕ) (found other : List Match)
    → AreMatches nfa asked before found → AreMatches nfa asked before other → found ≡ other

-- the matches are in the range, do not overlap, and each ends later than the one before
abbrev pub EachMatchesAreApart : Type 0
EachMatchesAreApart = (nfa : Nfa) (asked : Asked) (ms : List Match)
    → asked.end ≤ length asked.haystack → AreMatches nfa asked None ms
    → AreApart asked.start None asked.end ms

-- no match is passed over: where one begins, a match of the list covers the index
abbrev pub EachStartIsCovered : Type 0
EachStartIsCovered = (nfa : Nfa) (asked : Asked) (ms : List Match) (at : ℕ)
    → is_anchored nfa asked.anchored ≡ false → asked.end ≤ length asked.haystack
    → AreMatches nfa asked None ms → at ≤ asked.end → BeginsAt nfa asked at
    → (m : Match) × Contains ms m × Covers nfa asked at m

-- at an idle place of a scan no run that began before accepts, for any bytes that follow
abbrev pub EachIdleIsFresh : Type 0
EachIdleIsFresh = (nfa : Nfa) → IsAccepted nfa → HasPrefixApart nfa
    → (behind : Option ℕ) (bytes : List ℕ) → All (λ b. b < 256) bytes
    → (s : Scanned) → IsScan nfa LeftmostFirst nfa.start_unanchored behind bytes s → IsIdle nfa s
    → (more : List ℕ) (ahead : Option ℕ)
    → NothingBefore nfa (between behind (bytes ++ more) ahead) (length bytes)

-- and where another NFA state is first, some run that began before is in it
abbrev pub EachBusyHasBegun : Type 0
EachBusyHasBegun = (nfa : Nfa) → IsAccepted nfa → HasPrefix nfa
    → (behind : Option ℕ) (bytes : List ℕ) → All (λ b. b < 256) bytes
    → (s : Scanned) → IsScan nfa LeftmostFirst nfa.start_unanchored behind bytes s
    → (state : ℕ) → slice_get s.state.states 0 ≡ Some state → ¬ (state ≡ nfa.start_unanchored)
    → (more : List ℕ) (ahead : Option ℕ)
    → HasBegun nfa (between behind (bytes ++ more) ahead) (length bytes) state

-- where the match of a scan is certain, it is the preferred match of each text that
-- begins with the bytes
abbrev pub EachCertainIsPreferred : Type 0
EachCertainIsPreferred = (nfa : Nfa) → IsAccepted nfa
    → (start : ℕ) (behind : Option ℕ) (bytes : List ℕ) (s : Scanned)
    → IsScan nfa LeftmostFirst start behind bytes s
    → (m : HalfMatch) → certain_match nfa s ≡ Some m → (more : List ℕ) (ahead : Option ℕ)
    → IsPreferredMatch nfa start (between behind (bytes ++ more) ahead) (Some m)

-- each input has a list of all of its matches, behind a match that ended where its range starts too
abbrev pub EachInputHasMatches : Type 0
EachInputHasMatches = (nfa : Nfa) → IsAccepted nfa → (asked : Asked) (before : Option ℕ)
    → asked.end ≤ length asked.haystack
    → ((last : ℕ) → before ≡ Some last → last ≡ asked.start)
    → (ms : List Match) × AreMatches nfa asked before ms
