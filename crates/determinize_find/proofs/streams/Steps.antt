-- What each step of `Pieces` leaves: bytes kept or dropped, a match added or skipped, a later start; what steps do one
-- after the other, and what is left at the end.
-- Main statements: joined, fed_scan, fed_kept, fed_match, fed_skipped, fed_later, fed_dropped, finished, moved_on,
-- settled, few_kept, read_more, all_read.
-- Used by: the calls of `Pieces`.
-- Idea: the matches from the new place on, after what was added, are those from the old place on; and a match of the
-- kept bytes is one of the text, as much later as bytes were dropped. What was so at the end of a block stays so, as
-- more blocks are read.
use Rattle.determinize_find.proofs.Common.{add-one, All, All-append, All-cons, All-nil, ap, append-nil, append_assoc}
use Rattle.determinize_find.proofs.Common.{AreApart, AreMatches, arith, Asked, before, Bool, by_cases, by_test}
use Rattle.determinize_find.proofs.Common.{cases_lt, cond, drop, drop-append-le, drop-drop, drop_all, end_before, false}
use Rattle.determinize_find.proofs.Common.{false≢true, from, HasMoved, HasPrefixApart, IfSome, IfSome_then, inl, inr}
use Rattle.determinize_find.proofs.Common.{is_capture, is_touching, IsCertain, IsEndScan, IsFed, IsFinished}
use Rattle.determinize_find.proofs.Common.{IsFoundInBlock, IsFresh, IsFrontFed, IsKept, IsLeftmostIn, IsNext, IsPartFed}
use Rattle.determinize_find.proofs.Common.{IsSearching, IsStream, IsUnsettled, KeepsFew, KeptFewInBlocks, left_in}
use Rattle.determinize_find.proofs.Common.{length, length-append, length-drop, List, map, Match, min, moved, Nfa}
use Rattle.determinize_find.proofs.Common.{nil_from_length, None, Option, option_map, pattern_in, pattern_of, place}
use Rattle.determinize_find.proofs.Common.{reach, refl, Scanned, Some, Streamed, sym, take-append-le, take_all, take_at}
use Rattle.determinize_find.proofs.Common.{tests_capture, text_of, touches, true, whole, with_bytes, with_scan}
use Rattle.determinize_find.proofs.Common.{without_first, [], ℕ, ◌*◌, ◌++◌, ◌+◌, ◌-◌, ◌<◌, ◌∙◌, ◌∷◌, ◌≡◌, ◌≤◌, ◌⊎◌}
use Rattle.std.proofs.Math.Seq.{take-append-add}
use Rattle.std.specs.Prelude.{IsSome}
use Rattle.determinize_find.specs.Idle.{IsIdle, NothingBefore}
use Rattle.determinize_find.specs.Private.Windows.{IsWindow, past_match}
use Rattle.determinize_find.proofs.matches.NextMatch.{next_further, next_plain}
use Rattle.determinize_find.proofs.matches.OneList.{apart, lies}
use Rattle.determinize_find.proofs.streams.Rests.{byte_before-append, byte_before-drop, rest-drop, shift_leftmost, skip_leftmost, text-whole}

module _ {nfa : Nfa} {old now new : Streamed} {more : List ℕ} {list mid after : List Match}
    (fed : IsFed nfa old now more list mid) where
  -- one step after another
  pub joined : {others : List ℕ} → IsFed nfa now new others mid after → IsFed nfa old new (more ++ others) list after
  joined {others} b = record {
    found = fed.found ++ b.found;
    added = rw (b.added, fed.added, append_assoc) refl;
    read = simp length-append (omega arith);
    keeps = simp length-append (omega arith);
    stream = λ bytes given is.
        simp append_assoc at (b.stream (bytes ++ more) (given ++ fed.found) (fed.stream bytes given is));
  }

  -- the same after no bytes
  pub joined_none : IsFed nfa now new [] mid after → IsFed nfa old new more list after
  joined_none b = rw append-nil at (joined b)

-- the search begins elsewhere, or is another, and some matches were found
moved_start : (nfa : Nfa) (s : Streamed) (start : ℕ) (is_after : Bool) (scan : Option Scanned) (found : List Match)
    → ((bytes : List ℕ) (given : List Match) → IsStream nfa bytes given s
    → (more : List ℕ) → All (λ b. b < 256) more → (ms : List Match)
    → AreMatches nfa (from (whole (bytes ++ more)) (s.dropped + start))
    (cond is_after (Some (s.dropped + start)) None) ms
    → AreMatches nfa (from (whole (bytes ++ more)) (place s)) (before s) (found ++ ms)) → (list : List Match)
    → IsFed nfa s (record s { start = start; is_after = is_after; scan = scan }) [] list (list ++ found)
moved_start nfa s start is_after scan found from_there list = record {
  found = found;
  added = refl;
  read = omega arith;
  keeps = omega arith;
  stream = λ bytes given is. rw append-nil record {
    read = is.read;
    kept = is.kept;
    matches = λ more small ms h.
        rw append_assoc (is.matches more small (found ++ ms) (from_there bytes given is more small ms h));
  };
}

pub fed_scan : (nfa : Nfa) (s : Streamed) (scan : Option Scanned) (list : List Match)
    → IsFed nfa s (with_scan scan s) [] list list
fed_scan nfa s scan list =
    rw append-nil at (moved_start nfa s s.start s.is_after scan [] (λ bytes given is more small ms h. h) list)

module _ {nfa : Nfa} {bytes : List ℕ} {given : List Match} {s : Streamed} (is : IsStream nfa bytes given s) where
  -- a haystack that begins with the kept bytes, without what was dropped before them
  kept_more : (more : List ℕ) → s.kept ++ more ≡ drop s.dropped (bytes ++ more)
  kept_more more = ap (λ w. w ++ more) is.kept ∙ sym (drop-append-le s.dropped bytes more (omega (arith, is.read)))

  -- a certain match, in the whole text
  certain_in : {m : Match} → IsWindow s.kept s.dropped s.start s.scan → IsCertain nfa s.kept s.start m
      → (more : List ℕ) → All (λ b. b < 256) more
      → IsLeftmostIn nfa (from (whole (bytes ++ more)) (place s)) (Some (moved s.dropped m))
  certain_in {m} window certain more small =
      shift_leftmost nfa s.dropped s.start (bytes ++ more) (Some m) window.behind
      (simp length-append (omega (arith, is.read))) (rw (← kept_more more) (certain.leftmost more small))

-- more bytes are kept
pub fed_kept : (nfa : Nfa) (s : Streamed) (more : List ℕ) (scan : Option Scanned) (list : List Match)
    → All (λ b. b < 256) more → IsFed nfa s (with_scan scan (with_bytes more s)) more list list
fed_kept nfa s more scan list small = record {
  found = [];
  added = sym (append-nil list);
  read = simp length-append (omega arith);
  keeps = simp length-append (omega arith);
  stream = λ bytes given is. rw append-nil record {
    read = simp length-append (omega (arith, is.read));
    kept = kept_more is more;
    matches = λ others few ms h. simp append_assoc (is.matches (more ++ others)
        (All-append (λ b. b < 256) more others small few) ms (simp append_assoc at h));
  };
}

-- whether a match touches the one before it does not depend on where they are counted from
pub touches_moved : (d : ℕ) (end : Option ℕ) (m : Match)
    → touches (option_map (λ n. d + n) end) (moved d m) ≡ touches end m
touches_moved d None m = refl
touches_moved d (Some end) m = grind arith

pub before-kept : (s : Streamed) → before s ≡ option_map (λ n. s.dropped + n) (end_before s)
before-kept s = by_test s.is_after (λ e. rw e refl) (λ e. rw e refl)

touches_before : (s : Streamed) (m : Match) → touches (before s) (moved s.dropped m) ≡ touches (end_before s) m
touches_before s m = rw before-kept (touches_moved s.dropped (end_before s) m)

-- the start is at the end of a match
pub fed_match : (nfa : Nfa) (s : Streamed) (m : Match) (list : List Match)
    → IsWindow s.kept s.dropped s.start s.scan → IsCertain nfa s.kept s.start m → touches (end_before s) m ≡ false
    → IsFed nfa s (past_match m s) [] list (list ++ moved s.dropped m ∷ [])
fed_match nfa s m list window certain apart =
    moved_start nfa s m.end true s.scan (moved s.dropped m ∷ []) (λ bytes given is more small ms h.
    (next_plain nfa _ _ _ (certain_in is window certain more small) (touches_before s m ∙ apart), h)) list

-- without a match before, the next match is the leftmost
plain_next : (nfa : Nfa) (asked : Asked) (found : Option Match) → IsNext nfa asked None found
    → IsLeftmostIn nfa asked found
plain_next nfa asked found (None, first, taken) = rw taken first
plain_next nfa asked found (Some m, first, taken) = rw (taken.1 refl) first

-- a list from a later place, where the leftmost match from there is the next one from an earlier place
from_later : (nfa : Nfa) (asked : Asked) (i j : ℕ) (before : Option ℕ)
    → ((found : Option Match) → IsLeftmostIn nfa (from asked j) found → IsNext nfa (from asked i) before found)
    → (ms : List Match) → AreMatches nfa (from asked j) None ms → AreMatches nfa (from asked i) before ms
from_later nfa asked i j before next [] h = next None (plain_next nfa _ None h)
from_later nfa asked i j before next (m ∷ ms) h = (next (Some m) (plain_next nfa _ (Some m) h.0), h.1)

-- the start is one byte further on
abbrev pub after_byte : Streamed → Streamed
after_byte s = record s { start = s.start + 1; is_after = false }

pub fed_skipped : (nfa : Nfa) (s : Streamed) (m : Match) (list : List Match)
    → IsWindow s.kept s.dropped s.start s.scan → IsCertain nfa s.kept s.start m → touches (end_before s) m ≡ true
    → IsFed nfa s (after_byte s) [] list list
fed_skipped nfa s m list window certain touching =
    let sum : s.dropped + (s.start + 1) ≡ s.dropped + s.start + 1 = omega arith in
    rw append-nil at (moved_start nfa s (s.start + 1) false s.scan [] (λ bytes given is more small.
    from_later nfa (whole (bytes ++ more)) (place s) _ (before s)
    (λ found f. next_further nfa _ _ (Some (moved s.dropped m)) found (certain_in is window certain more small)
    (touches_before s m ∙ touching) (rw sum at f))) list)

-- the start is at the end of the kept bytes
pub fed_later : (nfa : Nfa) (s : Streamed) (scan : Option Scanned) (list : List Match)
    → IsWindow s.kept s.dropped s.start s.scan → IsFresh nfa s.kept s.start
    → IsFed nfa s (record s { start = length s.kept; is_after = false; scan = scan }) [] list list
fed_later nfa s scan list window fresh =
    let sum : place s + (length s.kept - s.start) ≡ s.dropped + length s.kept = omega (arith, fresh.some) in
    rw append-nil at (moved_start nfa s (length s.kept) false scan [] (λ bytes given is more small.
    let none : NothingBefore nfa (text_of false (from (whole (bytes ++ more)) (place s))) (length s.kept - s.start)
    = rw (
      text-whole (bytes ++ more) (place s),
      ← rest-drop s.dropped s.start (bytes ++ more) window.behind,
      ← kept_more is more,
      byte_before-append s.kept more s.start window.within,
      drop-append-le s.start s.kept more window.within,
    ) (fresh.nothing more small) in
    let size : s.dropped + length s.kept ≤ length (bytes ++ more) = simp length-append (omega (arith, is.read)) in
    from_later nfa (whole (bytes ++ more)) (place s) _ (before s)
    (λ found f. next_plain nfa _ _ found (skip_leftmost nfa fresh.prefix (bytes ++ more) (place s)
    (length s.kept - s.start) found (omega arith) none (rw sum f)) (apart (bytes ++ more) found f))) list)
  where
    apart : (text : List ℕ) (found : Option Match)
        → IsLeftmostIn nfa (from (whole text) (s.dropped + length s.kept)) found → is_touching (before s) found ≡ false
    apart text None f = refl
    apart text (Some m) f =
        let low = (lies nfa (from (whole text) (s.dropped + length s.kept)) m (omega arith) f).low in
        grind (arith, fresh.some, low)

-- bytes before the one behind the start are dropped
pub fed_dropped : (nfa : Nfa) (s : Streamed) (scan : Option Scanned) (count : ℕ) (list : List Match) → count ≤ s.start
    → s.start ≤ length s.kept → IsFed nfa s (without_first count (with_scan scan s)) [] list list
fed_dropped nfa s scan count list low within =
    let size = length-drop count s.kept in
    let sum : s.dropped + count + (s.start - count) ≡ s.dropped + s.start = omega arith in
    record {
      found = [];
      added = sym (append-nil list);
      read = omega arith;
      keeps = omega arith;
      stream = λ bytes given is. simp append-nil record {
        read = omega (arith, is.read);
        kept = ap (λ w. drop count w) is.kept ∙ drop-drop count s.dropped bytes;
        matches = λ more small ms h. is.matches more small ms (rw sum at h);
      };
    }

-- the first bytes of a piece were read
pub front_fed : {nfa : Nfa} {old new : Streamed} {front piece : List ℕ} {list after : List Match} (others : List ℕ)
    → front ++ others ≡ piece → IsFed nfa old new front list after → IsPartFed nfa old new piece list after
front_fed {nfa} {old} {new} {front} others e h =
    (length front, rw (← e) (simp length-append (omega arith)), rw (← e, take_at front others _ refl) h)

-- after the first blocks of a piece, a part of the next was read
pub part_fed : {nfa : Nfa} {old now new : Streamed} {done block : List ℕ} {list mid after : List Match}
    (others piece : List ℕ) → done ++ (block ++ others) ≡ piece → IsFed nfa old now done list mid
    → IsPartFed nfa now new block mid after → IsPartFed nfa old new piece list after
part_fed {nfa} {old} {now} {new} {done} {block} others piece e a (count, low, b) = (
  length done + count,
  rw (← e) (simp length-append (omega arith)),
  rw (← e, take-append-add done (block ++ others) count, take-append-le count block others low) (joined a b),
)

module _ (nfa : Nfa) (d : ℕ) (xs : List ℕ) (low : d ≤ length xs) where
  shift_next : (i : ℕ) (end : Option ℕ) (found : Option Match) → (i ≡ 0 → d ≡ 0)
      → IsNext nfa (from (whole (drop d xs)) i) end found
      → IsNext nfa (from (whole xs) (d + i)) (option_map (λ n. d + n) end) (option_map (moved d) found)
  shift_next i end found behind (None, first, is) = (None, shift_leftmost nfa d i xs None behind low first, rw is refl)
  shift_next i end found behind (Some m, first, is) =
      let sum : d + i + 1 ≡ d + (i + 1) = omega arith in
      let same = sym (touches_moved d end m) in (
        Some (moved d m),
        shift_leftmost nfa d i xs (Some m) behind low first,
        (
          λ e. rw sum (shift_leftmost nfa d (i + 1) xs found (λ z. absurd (omega arith)) low (is.0 (same ∙ e))),
          λ e. rw (is.1 (same ∙ e)) refl,
        ),
      )

  pub shift_matches : (i size : ℕ) (end : Option ℕ) (ms : List Match) → (i ≡ 0 → d ≡ 0) → AreApart i end size ms
      → AreMatches nfa (from (whole (drop d xs)) i) end ms
      → AreMatches nfa (from (whole xs) (d + i)) (option_map (λ n. d + n) end) (map (moved d) ms)
  shift_matches i size end [] behind apart h = shift_next i end None behind h
  shift_matches i size end (m ∷ ms) behind (low, order, _, _, apart) h =
      let rest = shift_matches m.end size (Some m.end) ms (λ e. behind (omega arith)) apart h.1 in
      (shift_next i end (Some m) behind h.0, rest)

-- where the match before ended, if that is known
pub end_is : (s : Streamed) (end : ℕ) → end_before s ≡ Some end → end ≡ s.start
end_is s end e = grind arith

-- the bytes of matches of what is kept are kept
matches_kept : (s : Streamed) (i : ℕ) (end : Option ℕ) (ms : List Match) → AreApart i end (length s.kept) ms
    → All (IsKept s) (map (moved s.dropped) ms)
matches_kept s i end [] apart = All-nil (IsKept s)
matches_kept s i end (m ∷ ms) (low, order, high, _, apart) =
    All-cons (IsKept s) (moved s.dropped m) (map (moved s.dropped) ms)
    record { low = omega arith; order = omega arith; high = omega arith } (matches_kept s m.end (Some m.end) ms apart)

-- all matches that are left were added
pub finished : (nfa : Nfa) (s : Streamed) (list after ms : List Match) → IsWindow s.kept s.dropped s.start s.scan
    → AreMatches nfa (from (whole s.kept) s.start) (end_before s) ms
    → after ≡ list ++ map (moved s.dropped) ms → IsFinished nfa s list after
finished nfa s list after ms window h e =
    let lie : AreApart s.start (end_before s) (length s.kept) ms
    = apart nfa (from (whole s.kept) s.start) (end_before s) ms (omega arith) (end_is s) h in
    record {
      found = map (moved s.dropped) ms;
      added = e;
      kept = matches_kept s s.start (end_before s) ms lie;
      all = λ bytes given is.
          let shifted = shift_matches nfa s.dropped bytes (omega (arith, is.read)) s.start (length s.kept)
          (end_before s) ms window.behind lie (rw is.kept at h) in
          simp append-nil at (is.matches [] (All-nil (λ b. b < 256)) (map (moved s.dropped) ms)
          (rw (append-nil, before-kept) shifted));
    }

-- one move after another
pub moved_on : {nfa : Nfa} {old now new : Streamed} → HasMoved nfa old now → HasMoved nfa now new
    → HasMoved nfa old new
moved_on a b = record { fed = λ list. joined_none (a.fed list) (b.fed list); searching = b.searching }

-- where at most the search changed
pub moved_begun : {nfa : Nfa} {old new : Streamed} {scan : Option Scanned} → new ≡ with_scan scan old
    → IsSearching nfa new → HasMoved nfa old new
moved_begun {nfa} {old} {new} {scan} e searching =
    record { fed = λ list. rw e (fed_scan nfa old scan list); searching = searching }

-- after the bytes that the search under way does not need are dropped
module _ (nfa : Nfa) (now : Streamed) {new : Streamed} (within : now.start ≤ length now.kept)
    (e : new ≡ without_first (now.start - 1) now) (searching : IsSearching nfa now) where
  searching_after : IsSearching nfa (without_first (now.start - 1) now)
  searching_after =
      let sum : now.start - 1 + (now.start - (now.start - 1)) ≡ now.start = omega arith in
      IfSome_then now.scan searching (λ scan is. rw (
        byte_before-drop (now.start - 1) (now.start - (now.start - 1)) now.kept (λ z. omega arith),
        drop-drop (now.start - (now.start - 1)) (now.start - 1) now.kept,
        sum,
      ) is)

  pub settled : {old : Streamed} → ((list : List Match) → IsFed nfa old now [] list list) → HasMoved nfa old new
  settled fed = rw e record {
    fed = λ list. joined_none (fed list) (fed_dropped nfa now now.scan (now.start - 1) list (omega arith) within);
    searching = searching_after;
  }

  -- few bytes are kept
  pub few_kept : (scan : Option Scanned) → now.scan ≡ scan → IsSome scan → IfSome scan (IsUnsettled nfa)
      → IfSome scan (λ s. HasPrefixApart nfa → IsIdle nfa s → now.start ≡ length now.kept) → KeepsFew nfa new
  few_kept None is some unsettled idle = absurd (false≢true some)
  few_kept (Some scan) is some unsettled idle = rw e record {
    scan = scan;
    search = is;
    searching = searching_after;
    unsettled = unsettled;
    behind = omega arith;
    idle = λ apart i. omega (arith, length-drop (now.start - 1) now.kept, idle apart i);
  }

-- a move past an empty match where the one before ended
pub skipped : {nfa : Nfa} {now : Streamed} (old : Streamed) (first : Option Match)
    → is_touching (end_before now) first ≡ true → IsWindow now.kept now.dropped now.start now.scan
    → IfSome first (λ m. IsCertain nfa now.kept now.start m) → IfSome first (λ m. now ≡ with_scan None old)
    → HasMoved nfa now (after_byte now)
skipped old None t window certain none = absurd (false≢true t)
skipped {nfa} {now} old (Some m) t window certain none =
    record { fed = λ list. fed_skipped nfa now m list window certain t; searching = rw none tt }

-- where nothing was read
pub front_none : {nfa : Nfa} {old new : Streamed} {found : List Match} (piece : List ℕ)
    → IsFed nfa old new [] [] found → IsFrontFed nfa old new piece piece found
front_none piece h = record { front = []; cut = refl; fed = h }

-- a part of a piece was read, and nothing found in it; then more was read
pub front_joined : {nfa : Nfa} {old now new : Streamed} {piece rest others : List ℕ} {found : List Match}
    → IsFrontFed nfa old now piece rest [] → IsFrontFed nfa now new rest others found
    → IsFrontFed nfa old new piece others found
front_joined a b = record {
  front = a.front ++ b.front;
  cut = rw (append_assoc, b.cut) a.cut;
  fed = joined a.fed b.fed;
}

-- the bytes of a block are counted as kept once they are read
pub left_kept : (s new : Streamed) (block rest piece : List ℕ) → new ≡ with_scan new.scan (with_bytes block s)
    → block ++ rest ≡ piece → left_in rest new ≤ left_in piece s
left_kept s new block rest piece kept cut = rw (kept, ← cut) (simp length-append (omega arith))

-- a piece was read up to its rest, block by block, and nothing was found; a match may be found in the last block
pub record HasReadBlocks (nfa : Nfa) (old now : Streamed) (piece rest : List ℕ) : Type 0 where
  pub searching : IsSearching nfa now
  pub fed : IsFrontFed nfa old now piece rest []
  pub last : {new : Streamed} {m : Match} → IsFed nfa now new [] [] (m ∷ [])
      → (rest ≡ piece) ⊎ IsFoundInBlock nfa old new piece rest m

pub blocks_none : {nfa : Nfa} {s : Streamed} (piece : List ℕ) → IsSearching nfa s → HasReadBlocks nfa s s piece piece
blocks_none {nfa} {s} piece searching =
    record { searching = searching; fed = front_none piece (fed_scan nfa s s.scan []); last = λ _. inl refl }

module _ {nfa : Nfa} {old now new : Streamed} {piece rest : List ℕ} (read : HasReadBlocks nfa old now piece rest) where
  -- nothing more was read
  pub read_on : {found : List Match} → IsFed nfa now new [] [] found → IsFrontFed nfa old new piece rest found
  read_on fed = front_joined read.fed (front_none rest fed)

  -- the next block was read
  pub next_block : {after : Streamed} {block others : List ℕ} → block ++ others ≡ rest → length block ≤ 4096
      → IsFed nfa now new [] [] [] → KeepsFew nfa new → IsFed nfa new after block [] [] → IsSearching nfa after
      → HasReadBlocks nfa old after piece others
  next_block {after} {block} cut small moved few fed searching =
      let first = rw (← cut) at (read_on moved) in record {
        searching = searching;
        fed = front_joined (read_on moved) record { front = block; cut = cut; fed = fed };
        last = λ more. inr
            record { now = new; block = block; small = small; first = first; few = few; last = joined_none fed more };
      }

-- where nothing was read, the first state is the unanchored start, which is no match, so no match is certain
pub unread_unsettled : {nfa : Nfa} {behind : Option ℕ} {bytes : List ℕ} {s : Scanned} → bytes ≡ []
    → IsEndScan nfa behind bytes s → IsUnsettled nfa s
unfolding reach
unread_unsettled {nfa} unread is =
    let plain : is_capture nfa nfa.start_unanchored ≡ false = ap tests_capture is.prefix.first in
    let none : pattern_of nfa nfa.start_unanchored ≡ None = ap pattern_in is.prefix.first in
    rw (is.scan.state, unread, add-one, plain, none)

module _ {nfa : Nfa} {old now new : Streamed} {done block : List ℕ} {list mid after : List Match}
    (fed : IsFed nfa old now done list mid) (more : IsFed nfa now new block mid after) (few : KeepsFew nfa new) where
  -- at the end of the next block, and at an earlier place
  more_blocks : (count : ℕ) → length done ≡ count * 4096 → 0 < length block → length block ≤ 4096
      → KeptFewInBlocks nfa old now done list mid → KeptFewInBlocks nfa old new (done ++ block) list after
  more_blocks count full some small blocks i (low, high, end) =
      let size = length-append done block in
      by_cases (cases_lt (length done) i)
      (λ later. let all : length (done ++ block) ≤ i = by_cases end (λ e. omega arith) (λ e. omega (arith, e.1)) in
      record {
        now = new;
        found = after;
        first = rw (take_all i (done ++ block) all) (joined fed more);
        few = few;
        rest = rw (drop_all i (done ++ block) all) (fed_scan nfa new new.scan after);
        end = λ _. refl;
      })
      (λ l. let at = blocks i (low, l, by_cases end (λ e. absurd (omega arith)) (λ e. inr e)) in record {
        now = at.now;
        found = at.found;
        first = rw (take-append-le i done block l) at.first;
        few = at.few;
        rest = rw (drop-append-le i done block l) (joined at.rest more);
        end = λ e. absurd (omega arith);
      })

-- the blocks of a piece that were read so far, and the rest of it
pub record HasRead (nfa : Nfa) (old now : Streamed) (piece rest : List ℕ) (list mid : List Match) : Type 0 where
  pub done : List ℕ
  pub cut : done ++ rest ≡ piece
  pub count : ℕ
  pub full : (rest ≡ []) ⊎ (length done ≡ count * 4096)
  pub fed : IsFed nfa old now done list mid
  pub few : KeptFewInBlocks nfa old now done list mid

pub read_none : (nfa : Nfa) (s : Streamed) (piece rest : List ℕ) (list : List Match) → rest ≡ piece
    → HasRead nfa s s piece rest list list
read_none nfa s piece rest list all = record {
  done = [];
  cut = all;
  count = 0;
  full = inr refl;
  fed = fed_scan nfa s s.scan list;
  few = λ i end. absurd (omega (arith, end.0, end.1));
}

module _ {nfa : Nfa} {old now : Streamed} {piece rest : List ℕ} {list mid : List Match}
    (is : HasRead nfa old now piece rest list mid) where
  pub read_more : {new : Streamed} {after : List Match} {block : List ℕ} (others : List ℕ)
      → rest ≡ block ++ others → length block ≡ min 4096 (length rest) → 0 < length rest
      → IsFed nfa now new block mid after → KeepsFew nfa new → HasRead nfa old new piece others list after
  read_more {new} {after} {block} others e m some more few =
      let sum : length rest ≡ length block + length others = ap length e ∙ length-append block others in
      let begun : length is.done ≡ is.count * 4096
      = by_cases is.full (λ z. absurd (omega (arith, ap length z))) (λ z. z) in
      record {
        done = is.done ++ block;
        cut = append_assoc is.done block others ∙ (rw e at is.cut);
        count = is.count + 1;
        full = by_cases (cases_lt (length rest) 4096)
            (λ l. inl (nil_from_length others (omega arith)))
            (λ l. inr (omega (arith, length-append is.done block)));
        fed = joined is.fed more;
        few = more_blocks is.fed more few is.count begun (omega arith) (omega arith) is.few;
      }

  pub all_read : rest ≡ [] → IsFed nfa old now piece list mid × KeptFewInBlocks nfa old now piece list mid
  all_read none = let all : is.done ≡ piece = rw (none, append-nil) at is.cut in rw (← all) (is.fed, is.few)
