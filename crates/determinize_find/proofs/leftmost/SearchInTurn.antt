-- The leftmost match of an input as one of its text, and by anchored searches from one index after another.
-- Main statements: later_run, in_text, leftmost_in, text-since, best_in, more_nothing, found_here, found_last.
-- Used by: `find_at` and `find` of `Plain`, all on leftmost matches, and searches in turn of `determinize_linear`.
-- Idea: the text from a later index is the rest of the text, where runs keep their choices (Shifts), and the first
-- index with a match is the least one where a run accepts.
use Rattle.determinize_find.proofs.Common.{Accepts, AcceptsFrom, arith, Asked, before_at, between, by_cases, by_option}
use Rattle.determinize_find.proofs.Common.{byte_before, cases_lt, cond, drop, drop-drop, drop-take, each_run_moves}
use Rattle.determinize_find.proofs.Common.{each_run_reads_forward, false, from, HalfMatch, is_anchored, IsLeftmost}
use Rattle.determinize_find.proofs.Common.{IsLeftmostIn, IsLeftmostMatch, IsSearchResult, latest, le-ltb, LeftmostFirst}
use Rattle.determinize_find.proofs.Common.{length, length-drop, List, lt-ltb, ltb-false, ltb-true, Match, moved}
use Rattle.determinize_find.proofs.Common.{nat_tests, Nfa, no_run_leaves_the_text, None, none-some, NothingFrom, Option}
use Rattle.determinize_find.proofs.Common.{option_map, refl, since, slice_get, slice_get-drop, slice_get-take}
use Rattle.determinize_find.proofs.Common.{slice_range, Some, some_injective, suc, sym, Text, text_of, Yes, zero, ℕ, ◌+◌, ◌-◌, ◌<◌, ◌≡◌, ◌≤◌}
use Rattle.determinize_find.specs.Private.BestAt.{from_index, IsBestFrom, IsBestIn}

-- a run from a later position is one over the text from an earlier one on
pub later_run : (nfa : Nfa) (text : Text) (n j : ℕ) {k : ℕ} → k ≡ n + j → (cs : List ℕ) (i pattern : ℕ)
    → AcceptsFrom nfa text k nfa.start_anchored cs i pattern
    → AcceptsFrom nfa (since text n) j nfa.start_anchored cs (i - n) pattern
later_run nfa text n j {k} at cs i y acc =
    let low = each_run_reads_forward nfa text k nfa.start_anchored cs i y acc in
    let end : n + (i - n) ≡ i = omega arith in
    (each_run_moves nfa text n j nfa.start_anchored cs (i - n) y).0 (rw (← at, end) acc)

-- a run ends within the text
pub run_within : (nfa : Nfa) (text : Text) (k : ℕ) (cs : List ℕ) (i pattern : ℕ) → k ≤ length text.bytes
    → AcceptsFrom nfa text k nfa.start_anchored cs i pattern → i ≤ length text.bytes
run_within nfa text k cs i y l acc =
    let rest = (no_run_leaves_the_text nfa nfa.start_anchored (since text k) cs (i - k)).1 y
    (later_run nfa text k 0 (omega arith) cs i y acc) in omega (arith, length-drop k text.bytes)

-- the match of the text that is this match of the haystack
pub record IsInText (nfa : Nfa) (asked : Asked) (m : Match) : Type 0 where
  pub order : asked.start ≤ asked.end
  pub match : Match
  pub early : match.start ≤ latest nfa asked
  pub leftmost : IsLeftmostMatch nfa (text_of false asked) match
  pub start : m.start ≡ asked.start + match.start
  pub end : m.end ≡ asked.start + match.end

pub in_text : {nfa : Nfa} {asked : Asked} {m : Match} → IsLeftmostIn nfa asked (Some m) → IsInText nfa asked m
in_text {nfa} {asked} {m} h = by_cases (cases_lt asked.end asked.start)
    (λ l. absurd (none-some m (sym (h.done (lt-ltb _ _ l)))))
    (λ l. let (o, is, e) = h.found (le-ltb _ _ l) in
    by_option o
    (λ n. absurd (none-some m (sym (rw n at e))))
    (λ n y. let (early, left) = rw y at is in
    rw (some_injective m _ (rw y at e))
    record { order = l; match = n; early = early; leftmost = left; start = refl; end = refl }))

-- without a match the text has none
pub none_in_text : {nfa : Nfa} {asked : Asked} → IsLeftmostIn nfa asked None → asked.start ≤ asked.end
    → IsLeftmost nfa (text_of false asked) (latest nfa asked) None
none_in_text h l =
    let (o, is, e) = h.found (le-ltb _ _ l) in
    by_option o (λ n. rw n at is) (λ n y. absurd (none-some _ (rw y at e)))

-- the leftmost match of the text is that of the input
pub leftmost_in : (nfa : Nfa) (asked : Asked) (o : Option Match) → asked.start ≤ asked.end
    → IsLeftmost nfa (text_of false asked) (latest nfa asked) o
    → IsLeftmostIn nfa asked (option_map (moved asked.start) o)
leftmost_in nfa asked o l is = record { done = λ d. absurd (omega (arith, ltb-true _ _ d)); found = λ d. (o, is, refl) }

-- and a range that starts past its end has none
pub found_past : (nfa : Nfa) (asked : Asked) → asked.end < asked.start → IsLeftmostIn nfa asked None
found_past nfa asked l = record { done = λ d. refl; found = λ d. absurd (omega (arith, ltb-false _ _ d)) }

-- the byte before a later start is that before its position in the text
behind-since : (xs : List ℕ) (start k end : ℕ) (ahead : Option ℕ) → start + k ≤ end
    → byte_before xs (start + k) ≡ before_at (between (byte_before xs start) (slice_range xs start end) ahead) k
behind-since xs start zero end ahead l = let z : start + 0 ≡ start = omega arith in rw z
behind-since xs start (suc k) end ahead l =
    let z : start + suc k ≡ suc (start + k) = omega arith in
    rw (z, slice_get-take (end - start) (drop start xs) k (omega arith), slice_get-drop)

-- the text from a later start on is the rest of the text
pub text-since : (asked from : Asked) (k : ℕ) → from.haystack ≡ asked.haystack → from.start ≡ asked.start + k
    → from.end ≡ asked.end → asked.start + k ≤ asked.end
    → text_of false from ≡ since (text_of false asked) k
text-since asked from k haystack start end l =
    let ahead = slice_get asked.haystack asked.end in
    let size : asked.end - asked.start ≡ k + (asked.end - (asked.start + k)) = omega arith in
    rw (haystack, start, end, behind-since asked.haystack asked.start k asked.end ahead l, size, drop-take, drop-drop)

-- an anchored search from an index finds the best match there
module _ (nfa : Nfa) (asked : Asked) (at : ℕ) (forward : nfa.reverse ≡ false) (low : asked.start ≤ at)
    (high : at ≤ asked.end) where
  -- the position of the index in the text, and the input of the search
  abbrev base : ℕ
  base = at - asked.start

  abbrev own : Asked
  own = record (from asked at) { anchored = Yes }

  text_is : text_of nfa.reverse own ≡ since (text_of false asked) base
  text_is = rw forward (text-since asked own base refl (omega arith) refl (omega arith))

  -- a run from there is one over the text of the search
  here : (cs : List ℕ) (i pattern : ℕ) → AcceptsFrom nfa (text_of false asked) base nfa.start_anchored cs i pattern
      → Accepts nfa (text_of nfa.reverse own) nfa.start_anchored cs (i - base) pattern
  here cs i pattern acc = rw text_is (later_run nfa (text_of false asked) base 0 (omega arith) cs i pattern acc)

  pub best_in : (found : Option HalfMatch) → IsSearchResult nfa LeftmostFirst own found
      → IsBestIn nfa asked at (option_map (from_index at) found)
  best_in None s =
      (None, λ cs i pattern acc. s.none (le-ltb _ _ high) (cs, i - base, pattern, here cs i pattern acc), refl)
  best_in (Some h) s =
      let (cs, i, is, run) = s.preferred refl in
      let offset : h.offset ≡ at + i = rw forward at is in
      let z : base + 0 ≡ base = omega arith in
      let accepts = rw z at ((each_run_moves nfa (text_of false asked) base 0 nfa.start_anchored cs i h.pattern).1
      (rw text_is at run.accepts)) in
      let start : at ≡ asked.start + base = omega arith in
      let end : h.offset ≡ asked.start + (base + i) = omega arith in
      let best : IsBestFrom nfa (text_of false asked) base cs (base + i) h.pattern
      = record { accepts = accepts; preferred = λ ds j y acc. run.preferred ds (j - base) y (here ds j y acc) } in
      (Some record { pattern = h.pattern; start = base; end = base + i }, (refl, (cs, best)), cc)

-- no match begins in the range before an index
abbrev pub NothingBefore : Nfa → Asked → ℕ → Type 0
NothingBefore nfa asked at = (k : ℕ) → asked.start + k < at → NothingFrom nfa (text_of false asked) k

pub more_nothing : (nfa now : Nfa) (asked : Asked) (at : ℕ) → now ≡ nfa → asked.start ≤ at
    → NothingBefore nfa asked at → IsBestIn now asked at None → NothingBefore nfa asked (at + 1)
more_nothing nfa now asked at e l before (o, best, is) k m = by_cases (cases_lt (asked.start + k) at)
    (before k)
    (λ j. let z : at - asked.start ≡ k = omega arith in
    by_option o (λ n. rw (e, n, z) at best) (λ n y. absurd (none-some _ (rw y at is))))

-- the most preferred match that begins at a position, where none begins before, is the leftmost
pub leftmost_match : {nfa : Nfa} {text : Text} (m : Match) (cs : List ℕ)
    → ((k : ℕ) → k < m.start → NothingFrom nfa text k) → IsBestFrom nfa text m.start cs m.end m.pattern
    → IsLeftmostMatch nfa text m
leftmost_match m cs none best =
    record { leftmost = none; choices = cs; accepts = best.accepts; preferred = best.preferred }

-- the first index with a match has the leftmost one, and after the last index there is none
found_in_turn : (nfa : Nfa) (asked : Asked) (at : ℕ) (answer : Option Match) → asked.start ≤ at → at ≤ asked.end
    → at - asked.start ≤ latest nfa asked → NothingBefore nfa asked at → IsBestIn nfa asked at answer
    → (answer ≡ None → at - asked.start ≡ latest nfa asked) → IsLeftmostIn nfa asked answer
found_in_turn nfa asked at answer low high early before (None, best, is) last =
    rw is (leftmost_in nfa asked None (omega arith) (λ j l. by_cases (cases_lt (asked.start + j) at)
    (before j)
    (λ i. let z : at - asked.start ≡ j = omega (arith, last is) in rw z at best)))
found_in_turn nfa asked at answer low high early before (Some m, (start, (cs, best)), is) last =
    rw is (leftmost_in nfa asked (Some m) (omega arith)
    (omega arith, leftmost_match m cs (λ j i. before j (omega arith)) (rw (← start) at best)))

-- the latest index at which a match may begin
pub record IsLatest (nfa : Nfa) (asked : Asked) (value : ℕ) : Type 0 where
  pub is : value - asked.start ≡ latest nfa asked
  pub low : asked.start ≤ value
  pub high : value ≤ asked.end

pub latest_is : (nfa : Nfa) (asked : Asked) (value : ℕ) (now : Nfa) → asked.start ≤ asked.end → now ≡ nfa
    → value ≡ cond (is_anchored now asked.anchored) asked.start asked.end → IsLatest nfa asked value
latest_is nfa asked value now l n v = grind (arith, nat_tests)

-- a match that is found in turn is the leftmost
pub found_here : (nfa now : Nfa) (asked : Asked) (at value : ℕ) (m : Match) → now ≡ nfa → IsLatest nfa asked value
    → asked.start ≤ at → at < value
    → NothingBefore nfa asked at → IsBestIn now asked at (Some m) → IsLeftmostIn nfa asked (Some m)
found_here nfa now asked at value m e v low s before best =
    found_in_turn nfa asked at (Some m) low (omega (arith, v.high)) (omega (arith, v.is)) before (rw e at best)
    (λ z. cc)

-- and so is what the last search says
pub found_last : (nfa now : Nfa) (asked : Asked) (at value : ℕ) (answer : Option Match) → now ≡ nfa
    → IsLatest nfa asked value → value ≤ at
    → NothingBefore nfa asked at → IsBestIn now asked value answer → IsLeftmostIn nfa asked answer
found_last nfa now asked at value answer e v s before best =
    found_in_turn nfa asked value answer v.low v.high (omega (arith, v.is)) (λ n m. before n (omega arith))
    (rw e at best) (λ z. v.is)
