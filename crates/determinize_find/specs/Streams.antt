-- All matches of a text that comes in pieces.
use Rattle.std.specs.Prelude.{◌≡◌, ◌*◌, ◌+◌, ◌-◌, ◌<◌, ◌≤◌, ◌++◌, ◌∷◌, ◌⊎◌, ℕ, [], All, Bool}
use Rattle.std.specs.Prelude.{IfOk, List, None, OnErr, OnOk, Option, Result, Some, cond, drop, length}
use Rattle.std.specs.Prelude.{option_to_list, take}
use Rattle.std.specs.Option.{IfSome}
use Rattle.determinize_below.specs.Nfa.{AllResolve, IsAccepted}
use Rattle.determinize_below.specs.Semantics.{Nfa}
use Rattle.determinize_below.specs.Search.{Asked}
use Rattle.determinize_below.specs.declared.search.Anchored.TheVariants.{No}
use Rattle.determinize_below.specs.declared.search.Match.{Match}
use Rattle.determinize_below.specs.declared.search.MatchKind.TheVariants.{LeftmostFirst}
use Rattle.determinize_start.specs.StartKinds.{byte_before}
use Rattle.determinize_engine.specs.Scans.{IsScan, Scanned}
use Rattle.determinize_find.specs.Certain.{IsUnsettled}
use Rattle.determinize_find.specs.Idle.{IsIdle}
use Rattle.determinize_find.specs.Matches.{AreMatches, from}
use Rattle.determinize_nfa.specs.Prefix.{HasPrefix, HasPrefixApart}

-- what a `Pieces` is seen as: the bytes that it keeps, how many it dropped before them, the index
-- in the kept bytes where the search for the next match begins, whether a match ended there, and
-- that search
pub record Streamed : Type 0 where
  pub kept : List ℕ
  pub dropped : ℕ
  pub start : ℕ
  pub is_after : Bool
  pub scan : Option Scanned

-- how many bytes were read
abbrev pub count_read : Streamed → ℕ
count_read s = s.dropped + length s.kept

-- how many bytes are kept
abbrev pub count_kept : Streamed → ℕ
count_kept s = length s.kept

-- where the search for the next match begins in the text
abbrev pub place : Streamed → ℕ
place s = s.dropped + s.start

-- where the match before it ended, if that is where the search begins
abbrev pub before : Streamed → Option ℕ
before s = cond s.is_after (Some (place s)) None

-- the whole of a haystack
abbrev pub whole : List ℕ → Asked
whole bytes = record { haystack = bytes; start = 0; end = length bytes; anchored = No }

-- the search for the end of the leftmost match of a text that begins with these bytes
pub record IsEndScan (nfa : Nfa) (behind : Option ℕ) (bytes : List ℕ) (s : Scanned) : Type 0 where
  pub accepted : IsAccepted nfa
  pub prefix : HasPrefix nfa
  pub resolve : AllResolve nfa s.state.states
  pub scan : IsScan nfa LeftmostFirst nfa.start_unanchored behind bytes s

-- the search has read a haystack from an index on
abbrev pub IsScanOf : Nfa → List ℕ → ℕ → Scanned → Type 0
IsScanOf nfa haystack start s = IsEndScan nfa (byte_before haystack start) (drop start haystack) s

-- the search has read the kept bytes from the start on
abbrev pub IsKeptScan : Nfa → Streamed → Scanned → Type 0
IsKeptScan nfa s scan = IsScanOf nfa s.kept s.start scan

-- so has the one that is under way
abbrev pub IsSearching : Nfa → Streamed → Type 0
IsSearching nfa s = IfSome s.scan (λ scan. IsKeptScan nfa s scan)

-- these bytes were read and these matches were found: all matches of each text that begins with the
-- bytes are these matches, and then those from the place on
pub record IsStream (nfa : Nfa) (bytes : List ℕ) (given : List Match) (s : Streamed)
    : Type 0 where
  pub read : count_read s ≡ length bytes
  pub kept : s.kept ≡ drop s.dropped bytes
  pub matches : (more : List ℕ) → All (λ b. b < 256) more → (ms : List Match)
      → AreMatches nfa (from (whole (bytes ++ more)) (place s)) (before s) ms
      → AreMatches nfa (whole (bytes ++ more)) None (given ++ ms)

-- some more bytes were read, and some more matches were added to a list; no more bytes are kept
-- than before and those
pub record IsFed (nfa : Nfa) (old new : Streamed) (more : List ℕ) (list after : List Match)
    : Type 0 where
  pub found : List Match
  pub added : after ≡ list ++ found
  pub read : count_read new ≡ count_read old + length more
  pub keeps : count_kept new ≤ count_kept old + length more
  pub stream : (bytes : List ℕ) (given : List Match) → IsStream nfa bytes given old
      → IsStream nfa (bytes ++ more) (given ++ found) new

-- the same of the first bytes of a piece
abbrev pub IsPartFed : Nfa → Streamed → Streamed → List ℕ → List Match → List Match → Type 0
IsPartFed nfa old new piece list after =
    (count : ℕ) × (count ≤ length piece) × IsFed nfa old new (take count piece) list after

-- a piece was read, or its first bytes, where the result is an error
pub record IsFeeding {T E : Type 0} (nfa : Nfa) (old new : Streamed) (piece : List ℕ)
    (list after : List Match) (result : Result T E) : Type 0 where
  pub fed : OnOk result (IsFed nfa old new piece list after)
  pub failed : OnErr result (IsPartFed nfa old new piece list after)
  pub searching : IsSearching nfa new

-- the bytes of a piece up to its rest were read, and these matches were found
pub record IsFrontFed (nfa : Nfa) (old new : Streamed) (piece rest : List ℕ) (found : List Match)
    : Type 0 where
  pub front : List ℕ
  pub cut : front ++ rest ≡ piece
  pub fed : IsFed nfa old new front [] found

-- a piece was read up to its rest, and the result is the next match, or no match was found
pub record IsAdvance {E : Type 0} (nfa : Nfa) (old new : Streamed) (piece rest : List ℕ)
    (result : Result (Option Match) E) : Type 0 where
  pub fed : IfOk result (λ next. IsFrontFed nfa old new piece rest (option_to_list next))
  pub failed : OnErr result (IsFrontFed nfa old new piece rest [])
  pub searching : IsSearching nfa new

-- an upper bound on how many more matches there may be in the kept bytes and a piece: two for each
-- byte, since an empty match may be followed by another, which is skipped
abbrev pub left_in : List ℕ → Streamed → ℕ
left_in piece s = 2 * (length piece + (length s.kept - s.start)) + cond s.is_after 0 1

-- all bytes of a match are kept
pub record IsKept (s : Streamed) (m : Match) : Type 0 where
  pub low : s.dropped ≤ m.start
  pub order : m.start ≤ m.end
  pub high : m.end ≤ count_read s

-- the search of the kept bytes from the start on is under way, and no match of it is certain; at
-- most one byte before its start is kept, and no other where it is idle
pub record KeepsFew (nfa : Nfa) (s : Streamed) : Type 0 where
  pub scan : Scanned
  pub search : s.scan ≡ Some scan
  pub searching : IsSearching nfa s
  pub unsettled : IsUnsettled nfa scan
  pub behind : s.start ≤ 1
  pub idle : HasPrefixApart nfa → IsIdle nfa scan → count_kept s ≤ 1

-- before the last bytes that were read, at most 4096, no match was certain and few bytes were kept;
-- with them this match was found
pub record IsFoundInBlock (nfa : Nfa) (old new : Streamed) (piece rest : List ℕ) (m : Match)
    : Type 0 where
  pub now : Streamed
  pub block : List ℕ
  pub small : length block ≤ 4096
  pub first : IsFrontFed nfa old now piece (block ++ rest) []
  pub few : KeepsFew nfa now
  pub last : IsFed nfa now new block [] (m ∷ [])

-- the end of a piece, or of a block of 4096 bytes of it
abbrev pub IsBlockEnd : List ℕ → ℕ → Type 0
IsBlockEnd piece i = (0 < i) × (i ≤ length piece)
    × ((i ≡ length piece) ⊎ ((count : ℕ) × (i ≡ count * 4096)))

-- after the first bytes of a piece few bytes were kept, and then the rest of it was read; after the
-- whole piece nothing changed any more
pub record KeptFewAt (nfa : Nfa) (old new : Streamed) (piece : List ℕ) (list after : List Match)
    (i : ℕ) : Type 0 where
  pub now : Streamed
  pub found : List Match
  pub first : IsFed nfa old now (take i piece) list found
  pub few : KeepsFew nfa now
  pub rest : IsFed nfa now new (drop i piece) found after
  pub end : i ≡ length piece → now ≡ new

-- the same at the end of each block
abbrev pub KeptFewInBlocks : Nfa → Streamed → Streamed → List ℕ → List Match → List Match → Type 0
KeptFewInBlocks nfa old new piece list after =
    (i : ℕ) → IsBlockEnd piece i → KeptFewAt nfa old new piece list after i

-- the matches that are left, where the text ends, were added to a list; their bytes are kept
pub record IsFinished (nfa : Nfa) (s : Streamed) (list after : List Match) : Type 0 where
  pub found : List Match
  pub added : after ≡ list ++ found
  pub kept : All (IsKept s) found
  pub all : (bytes : List ℕ) (given : List Match) → IsStream nfa bytes given s
      → AreMatches nfa (whole bytes) None (given ++ found)
