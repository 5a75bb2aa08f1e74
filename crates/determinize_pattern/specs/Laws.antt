-- Laws of the ends of patterns and of compiled NFAs.
use Rattle.std.specs.Prelude.{◌≡◌, ◌<◌, ◌↔◌, ℕ, Bool, Contains, IsUtf8, List, None, Option, Some, [], ◌∷◌, false, slice_get, slice_range}
use Rattle.std.specs.Str.{IsCharBoundary}
use Rattle.determinize_below.specs.Semantics.{Nfa, Text, between}
use Rattle.determinize_below.specs.declared.search.Match.{Match}
use Rattle.determinize_nfa.specs.Leftmost.{IsLeftmost}
use Rattle.determinize_pattern.specs.Characters.{IsCharClass, IsCharFrom, ReadsCharacters}
use Rattle.determinize_pattern.specs.Classes.{is_chosen}
use Rattle.determinize_pattern.specs.Compiled.{IsNfaOf}
use Rattle.determinize_pattern.specs.LeftmostOf.{IsLeftmostOf}
use Rattle.determinize_pattern.specs.Meaning.{Matches, Re, ends}

-- the ends of a pattern are where it matches in some way
abbrev pub EachEndMatches : Type 0
EachEndMatches = (t : ℕ) (text : Text) (re : Re) (i j : ℕ)
    → Contains (ends t text re i) j ↔ Matches t text re i j

-- the class of the character U+00E9 matches its two bytes
abbrev pub AccentMatches : Type 0
AccentMatches = (t : ℕ) (re : Re) → IsCharClass (is_chosen ((0xE9, 0xE9) ∷ []) false) re
    → Matches t (between None (0xC3 ∷ 0xA9 ∷ []) None) re 0 2

-- from each position, a class of characters matches to one position at most
abbrev pub EachCharEndsOnce : Type 0
EachCharEndsOnce = (test : ℕ → Bool) (re : Re) → IsCharClass test re
    → (t : ℕ) (text : Text) (i j k : ℕ) → Matches t text re i j → Matches t text re i k → j ≡ k

-- the preferred end of a class of characters is that of a character of the class
abbrev pub EachCharIsPreferred : Type 0
EachCharIsPreferred = (test : ℕ → Bool) (re : Re) → IsCharClass test re
    → (t : ℕ) (text : Text) (i j : ℕ)
    → (slice_get (ends t text re i) 0 ≡ Some j) ↔ IsCharFrom test text.bytes i j

-- what a class of characters matches is UTF-8
abbrev pub EachCharIsUtf8 : Type 0
EachCharIsUtf8 = (test : ℕ → Bool) (re : Re) → IsCharClass test re
    → (t : ℕ) (text : Text) (i j : ℕ) → Matches t text re i j → IsUtf8 (slice_range text.bytes i j)

-- in a text that is UTF-8, a match of characters ends at a boundary if it begins at one
abbrev pub EachEndIsBoundary : Type 0
EachEndIsBoundary = (re : Re) → ReadsCharacters re
    → (t : ℕ) (text : Text) → IsUtf8 text.bytes → (i j : ℕ)
    → IsCharBoundary text.bytes i → Contains (ends t text re i) j → IsCharBoundary text.bytes j

-- and it begins at one if it is not empty
abbrev pub EachStartIsBoundary : Type 0
EachStartIsBoundary = (re : Re) → ReadsCharacters re
    → (t : ℕ) (text : Text) → IsUtf8 text.bytes → (i j : ℕ)
    → Contains (ends t text re i) j → i < j → IsCharBoundary text.bytes i

-- the leftmost match of the runs of an NFA of patterns is that of the patterns
abbrev pub EachLeftmostIsOf : Type 0
EachLeftmostIsOf = (res : List Re) (nfa : Nfa) → IsNfaOf res nfa
    → (text : Text) (latest : ℕ) (m : Option Match)
    → IsLeftmost nfa text latest m ↔ IsLeftmostOf nfa.terminator res text latest m
