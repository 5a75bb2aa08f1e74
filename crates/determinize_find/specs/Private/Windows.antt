-- What is true of every `Pieces`, and of the match that it is sure of.
use Rattle.std.specs.Prelude.{◌≡◌, ◌+◌, ◌++◌, ◌-◌, ◌<◌, ◌≤◌, ℕ, All, List, None, Option, Some, [], cond}
use Rattle.std.specs.Prelude.{IfOk, Result, drop, false, length, true}
use Rattle.std.specs.Option.{IfNone, IfSome}
use Rattle.determinize_below.specs.Semantics.{Nfa, between}
use Rattle.determinize_below.specs.declared.search.Match.{Match}
use Rattle.determinize_start.specs.StartKinds.{byte_before}
use Rattle.determinize_engine.specs.Scans.{Scanned}
use Rattle.determinize_find.specs.Idle.{NothingBefore}
use Rattle.determinize_find.specs.LeftmostIn.{IsLeftmostIn}
use Rattle.determinize_find.specs.Matches.{from, touches}
use Rattle.determinize_nfa.specs.Prefix.{HasPrefix}
use Rattle.determinize_find.specs.Streams.{IsFed, IsSearching, KeepsFew, Streamed, whole}

-- the search begins in the kept bytes and has read the rest of them, the byte before it is kept,
-- and what was read has a count
pub record IsWindow (kept : List ℕ) (dropped start : ℕ) (scan : Option Scanned) : Type 0 where
  pub within : start ≤ length kept
  pub read : IfSome scan (λ s. s.read ≡ length kept - start)
  pub behind : start ≡ 0 → dropped ≡ 0
  pub count : dropped + length kept ≤ 18446744073709551615

-- a match from an index on, which begins before the end of a haystack of this size, and ends there
-- or before
pub record IsInside (size start : ℕ) (m : Match) : Type 0 where
  pub low : start ≤ m.start
  pub order : m.start ≤ m.end
  pub high : m.end ≤ size
  pub some : m.start < size

-- the leftmost match from an index on, regardless of what follows the haystack
pub record IsCertain (nfa : Nfa) (haystack : List ℕ) (start : ℕ) (m : Match) : Type 0 where
  pub inside : IsInside (length haystack) start m
  pub leftmost : (more : List ℕ) → All (λ b. b < 256) more
      → IsLeftmostIn nfa (from (whole (haystack ++ more)) start) (Some m)

-- no match begins in the haystack from an index on, regardless of what follows it
pub record IsFresh (nfa : Nfa) (haystack : List ℕ) (start : ℕ) : Type 0 where
  pub prefix : HasPrefix nfa
  pub some : start < length haystack
  pub nothing : (more : List ℕ) → All (λ b. b < 256) more
      → NothingBefore nfa (between (byte_before haystack start) (drop start haystack ++ more) None)
      (length haystack - start)

-- with another search under way, if any
abbrev pub with_scan : Option Scanned → Streamed → Streamed
with_scan scan s = record s { scan = scan }

-- with more bytes kept
abbrev pub with_bytes : List ℕ → Streamed → Streamed
with_bytes more s = record s { kept = s.kept ++ more }

-- the start is at the end of a match
abbrev pub past_match : Match → Streamed → Streamed
past_match m s = record s { start = m.end; is_after = true }

-- the end of the match before, in the kept bytes
abbrev pub end_before : Streamed → Option ℕ
end_before s = cond s.is_after (Some s.start) None

-- the match is in the kept bytes and does not touch the one before, and no search is under way
pub record IsPlaceOf (m : Match) (s : Streamed) : Type 0 where
  pub inside : IsInside (length s.kept) s.start m
  pub apart : touches (end_before s) m ≡ false
  pub none : s.scan ≡ None

-- nothing was read and nothing found, but the start may have moved
pub record HasMoved (nfa : Nfa) (old new : Streamed) : Type 0 where
  pub fed : (list : List Match) → IsFed nfa old new [] list list
  pub searching : IsSearching nfa new

-- a step that reads nothing: a match that it returns is certain, and without one few bytes are kept
pub record IsStep {E : Type 0} (nfa : Nfa) (old new : Streamed) (result : Result (Option Match) E)
    : Type 0 where
  pub moved : HasMoved nfa old new
  pub certain : IfOk result (λ next. IfSome next (λ m. IsCertain nfa new.kept new.start m))
  pub few : IfOk result (λ next. IfNone next (KeepsFew nfa new))

-- the first bytes are dropped
abbrev pub without_first : ℕ → Streamed → Streamed
without_first count s = record s {
  kept = drop count s.kept;
  dropped = s.dropped + count;
  start = s.start - count;
}
