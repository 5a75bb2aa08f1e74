-- Laws of searches over the NFA of patterns, and of the parts of texts.
use Rattle.std.specs.Bool.{Decides}
use Rattle.std.specs.List.{join_by}
use Rattle.std.specs.Prelude.{◌≡◌, ◌+◌, ◌<◌, ◌↔◌, ◌∷◌, ℕ, All, List, Option, [], codes, length}
use Rattle.std.specs.Str.{IsCharBoundary}
use Rattle.determinize_below.specs.Search.{Asked}
use Rattle.determinize_below.specs.Semantics.{Nfa, Text}
use Rattle.determinize_below.specs.declared.search.Match.{Match}
use Rattle.determinize_core.specs.Walk.{ListsAccepted}
use Rattle.determinize_find.specs.LeftmostIn.{IsLeftmostIn}
use Rattle.determinize_find.specs.Matches.{AreMatches}
use Rattle.determinize_nfa.specs.Prefix.{HasPrefix}
use Rattle.determinize_pattern.specs.Compiled.{IsNfaOf}
use Rattle.determinize_pattern.specs.Meaning.{Re}
use Rattle.determinize_regex.specs.Parts.{parts, replaced}
use Rattle.determinize_regex.specs.PatternMatches.{AreMatchesOf, IsLeftmostOfIn}
use Rattle.determinize_regex.specs.PatternsAt.{ArePatternsAt}
use Rattle.determinize_regex.specs.Utf8.{is_boundary}

-- the leftmost match of an input over the NFA of patterns is that of the patterns
abbrev pub EachLeftmostInIsOf : Type 0
EachLeftmostInIsOf = (res : List Re) (nfa : Nfa) → IsNfaOf res nfa → HasPrefix nfa
    → (asked : Asked) (found : Option Match)
    → IsLeftmostIn nfa asked found ↔ IsLeftmostOfIn nfa.terminator res asked found

-- and all its matches are those of the patterns
abbrev pub EachMatchesAreOf : Type 0
EachMatchesAreOf = (res : List Re) (nfa : Nfa) → IsNfaOf res nfa → HasPrefix nfa
    → (asked : Asked) (before : Option ℕ) (found : List Match)
    → AreMatches nfa asked before found ↔ AreMatchesOf nfa.terminator res asked before found

-- what a walk from the anchored start lists at a position is what the patterns match from the start
-- of the text
abbrev pub EachAnchoredListIsOf : Type 0
EachAnchoredListIsOf = (res : List Re) (nfa : Nfa) → IsNfaOf res nfa
    → (text : Text) (i : ℕ) (xs : List ℕ) → ListsAccepted nfa text nfa.start_anchored i xs
    → ArePatternsAt nfa.terminator res text 0 i xs

-- and from the unanchored start, what they match from any position
abbrev pub EachListIsOf : Type 0
EachListIsOf = (res : List Re) (nfa : Nfa) → IsNfaOf res nfa → HasPrefix nfa
    → (text : Text) → All (λ b. b < 256) text.bytes
    → (i : ℕ) (xs : List ℕ) → ListsAccepted nfa text nfa.start_unanchored i xs
    → ArePatternsAt nfa.terminator res text (length text.bytes) i xs

-- `is_boundary` is whether a text may be cut at the index
abbrev pub EachBoundaryIsDecided : Type 0
EachBoundaryIsDecided =
    (text : List ℕ) (i : ℕ) → Decides (is_boundary text i) (IsCharBoundary text i)

-- a text with other bytes in place of each match is its parts, joined by these bytes
abbrev pub EachReplacedIsJoined : Type 0
EachReplacedIsJoined = (by text : List ℕ) (found : List Match)
    → replaced by text 0 found ≡ join_by (λ (part : List ℕ). part) by (parts text 0 found)

-- a match of pattern 0 of one byte
abbrev pub one_byte_match : ℕ → Match
one_byte_match start = record { pattern = 0; start = start; end = start + 1 }

-- between the commas of `a,b,` are `a`, `b` and nothing
abbrev pub WorkedParts : Type 0
WorkedParts = parts (codes "a,b,") 0 (one_byte_match 1 ∷ one_byte_match 3 ∷ [])
    ≡ codes "a" ∷ codes "b" ∷ [] ∷ []

-- and with ` and ` in their place
abbrev pub WorkedReplaced : Type 0
WorkedReplaced =
    replaced (codes " and ") (codes "a,b,") 0 (one_byte_match 1 ∷ one_byte_match 3 ∷ [])
    ≡ codes "a and b and "
