-- All matches of patterns in a text that comes in pieces.
use Rattle.std.specs.Prelude.{◌≡◌, ◌+◌, ◌<◌, ◌≤◌, ◌++◌, ◌∷◌, ℕ, [], All, List, drop, length}
use Rattle.std.specs.Prelude.{take}
use Rattle.determinize_below.specs.declared.search.Match.{Match}
use Rattle.determinize_find.specs.Matches.{from}
use Rattle.determinize_find.specs.Streams.{IsKept, KeepsFew, KeptFewInBlocks, Streamed, before}
use Rattle.determinize_find.specs.Streams.{count_kept, count_read, place, whole}
use Rattle.determinize_nfa.specs.Prefix.{HasPrefixApart}
use Rattle.determinize_pattern.specs.Compiled.{IsNfaOf}
use Rattle.determinize_regex.specs.PatternMatches.{AreMatchesOf}
use Rattle.determinize_regex.specs.Regexes.{AreAllIn, RegexValue, meanings}

-- what a `Stream` is seen as: the patterns, and how far the search of the pieces has come
pub record StreamValue : Type 0 where
  pub regex : RegexValue
  pub pieces : Streamed

-- all matches of each text that begins with these bytes begin with these matches
abbrev pub BeginAll : RegexValue → List ℕ → List Match → Type 0
BeginAll regex text given = (more : List ℕ) → All (λ b. b < 256) more
    → (ms : List Match) × AreAllIn regex (text ++ more) (given ++ ms)

-- these bytes were read and these matches were found: they are the first matches of each text that
-- begins with the bytes, and those from the place on are the others
pub record IsStreamOf (s : StreamValue) (text : List ℕ) (given : List Match) : Type 0 where
  pub read : count_read s.pieces ≡ length text
  pub kept : s.pieces.kept ≡ drop s.pieces.dropped text
  pub first : BeginAll s.regex text given
  pub others : (more : List ℕ) → All (λ b. b < 256) more → (ms : List Match)
      → AreMatchesOf s.regex.terminator (meanings s.regex)
      (from (whole (text ++ more)) (place s.pieces)) (before s.pieces) ms
      → AreAllIn s.regex (text ++ more) (given ++ ms)

-- some more bytes were read, and some more matches were added to a list; no more bytes are kept
-- than before and those
pub record IsFedOf (old new : StreamValue) (more : List ℕ) (list after : List Match)
    : Type 0 where
  pub found : List Match
  pub added : after ≡ list ++ found
  pub read : count_read new.pieces ≡ count_read old.pieces + length more
  pub keeps : count_kept new.pieces ≤ count_kept old.pieces + length more
  pub stream : (text : List ℕ) (given : List Match) → IsStreamOf old text given
      → IsStreamOf new (text ++ more) (given ++ found)

-- the same of the first bytes of a piece
abbrev pub IsPartFedOf : StreamValue → StreamValue → List ℕ → List Match → List Match → Type 0
IsPartFedOf old new piece list after =
    (count : ℕ) × (count ≤ length piece) × IsFedOf old new (take count piece) list after

-- the bytes of a piece up to its rest were read, and these matches were found
pub record IsFrontFedOf (old new : StreamValue) (piece rest : List ℕ) (found : List Match)
    : Type 0 where
  pub front : List ℕ
  pub cut : front ++ rest ≡ piece
  pub fed : IsFedOf old new front [] found

-- few bytes were kept at the end of each block of a piece, by the NFA of the patterns, whose prefix
-- is apart
pub record KeptFewOf (old new : StreamValue) (piece : List ℕ) (list after : List Match)
    : Type 0 where
  pub means : IsNfaOf (meanings old.regex) old.regex.nfa
  pub apart : HasPrefixApart old.regex.nfa
  pub few : KeptFewInBlocks old.regex.nfa old.pieces new.pieces piece list after

-- no match of the search under way is certain, and few bytes are kept, by the NFA of the patterns,
-- whose prefix is apart
pub record KeepsFewOf (s : StreamValue) : Type 0 where
  pub means : IsNfaOf (meanings s.regex) s.regex.nfa
  pub apart : HasPrefixApart s.regex.nfa
  pub few : KeepsFew s.regex.nfa s.pieces

-- before the last bytes that were read, at most 4096, no match was certain and few bytes were kept;
-- with them this match was found
pub record IsFoundInBlockOf (old new : StreamValue) (piece rest : List ℕ) (m : Match) : Type 0 where
  pub now : StreamValue
  pub block : List ℕ
  pub small : length block ≤ 4096
  pub first : IsFrontFedOf old now piece (block ++ rest) []
  pub few : KeepsFewOf now
  pub last : IsFedOf now new block [] (m ∷ [])

-- the matches that are left, where the text ends, were added to a list; their bytes are kept
pub record IsFinishedOf (s : StreamValue) (list after : List Match) : Type 0 where
  pub found : List Match
  pub added : after ≡ list ++ found
  pub kept : All (IsKept s.pieces) found
  pub all : (text : List ℕ) (given : List Match) → IsStreamOf s text given
      → AreAllIn s.regex text (given ++ found)
