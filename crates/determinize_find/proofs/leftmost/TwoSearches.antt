-- A search forward finds the end of the leftmost match, and one backward its start.
-- Main statements: starts_differ, leftmost_end, found_in, some_found, begin_found, full_none, full_some.
-- Used by: the calls of `Regex`, and of starts_differ Rests and FoundOfPatterns of `determinize_regex`.
-- Idea: the farthest run backward is the first start of a run that ends there. Runs of any pattern that end where the
-- leftmost match ends begin where it does or later, so for its end that is its start.
use Rattle.determinize_find.proofs.Common.{Accepts, AcceptsFrom, All, All-drop, All-from_get_or, All-take, arith, Asked}
use Rattle.determinize_find.proofs.Common.{between, Bool, by_cases, by_test, cases_lt, cond, end_of, false, false≢true}
use Rattle.determinize_find.proofs.Common.{HalfMatch, has_start, HasMatch, HasPrefix, in_haystack, is_anchored, is_done}
use Rattle.determinize_find.proofs.Common.{IsEnded, IsLeftmost, IsLeftmostIn, IsSearchResult, last_in, le-ltb}
use Rattle.determinize_find.proofs.Common.{LeftmostFirst, length, length-drop, length-take, List, lt-ltb, Match, moved}
use Rattle.determinize_find.proofs.Common.{ne_eqb, Nfa, No, no_run_leaves_the_text, None, Option, option_map, or_some}
use Rattle.determinize_find.proofs.Common.{Pattern, refl, Result, slice_get-drop, slice_get-take, slice_get_past}
use Rattle.determinize_find.proofs.Common.{slice_index_or, slice_range, Some, start_for, sym, take-take, Text, text_of, true, u_not_a, Yes, [], ℕ, ◌+◌, ◌-◌, ◌<◌, ◌∙◌, ◌≡◌, ◌≤◌}
use Rattle.determinize_below.specs.declared.search.Anchored.{Anchored}
use Rattle.determinize_find.proofs.leftmost.SearchInTurn.{found_past, in_text, IsInText, leftmost_in, none_in_text}
use Rattle.determinize_find.proofs.leftmost.PreferredRun.{each_anchored_is_leftmost, each_preferred_is_leftmost, to_start}
use Rattle.determinize_find.proofs.matches.OneList.{length-range, lies, LiesIn}
use Rattle.determinize_engine.specs.Engines.{EngineValue}
use Rattle.determinize_find.specs.FullMatches.{IsFullMatch}
use Rattle.determinize_find.specs.Private.Pairs.{IsPair}
use Rattle.determinize_core.proofs.Common.{Decides, Err, IsPreferredMatch, length-reverse, nat_eq, Ok}
use Rattle.determinize_below.specs.declared.search.MatchKind.TheVariants as kinds
use Rattle.determinize_find.specs.Endings.{IsEnding}
use Rattle.determinize_nfa.specs.Reversal.{IsReverseOf, turned, upto}
use Rattle.std.proofs.Common.{Fits, IfOk, w8}

-- with the usual prefix the starts are two states
pub starts_differ : (nfa : Nfa) → HasPrefix nfa → nat_eq nfa.start_unanchored nfa.start_anchored ≡ false
starts_differ nfa has = ne_eqb _ _ (λ e. u_not_a nfa (between None [] None) (λ i look. false) has (sym e))

-- the preferred match from the start for a mode is the end of the leftmost match
module _ (nfa : Nfa) (text : Text) (has : HasPrefix nfa) (small : All (λ b. b < 256) text.bytes) where
  leftmost_of : (mode : Anchored) (found : Option HalfMatch) → has_start mode ≡ true
      → IsPreferredMatch nfa (start_for nfa mode) text found
      → (m : Option Match) × IsLeftmost nfa text (cond (is_anchored nfa mode) 0 (length text.bytes)) m
      × (found ≡ option_map end_of m)
  leftmost_of No found s p = rw (starts_differ nfa has) (each_preferred_is_leftmost nfa has text small found p)
  leftmost_of Yes found s p = each_anchored_is_leftmost nfa text found p
  leftmost_of (Pattern k) found s p = cc

  -- and a run from that start that accepts is one from the anchored start
  begins_somewhere : (mode : Anchored) (cs : List ℕ) (i pattern : ℕ) → has_start mode ≡ true
      → Accepts nfa text (start_for nfa mode) cs i pattern
      → (k : ℕ) × (k ≤ cond (is_anchored nfa mode) 0 (length text.bytes)) × (ds : List ℕ)
      × AcceptsFrom nfa text k nfa.start_anchored ds i pattern
  begins_somewhere No cs i y s acc =
      let t = to_start nfa text has small cs i y acc in (t.0, rw (starts_differ nfa has) t.1, t.2, t.4)
  begins_somewhere Yes cs i y s acc = (0, omega arith, cs, acc)
  begins_somewhere (Pattern k) cs i y s acc = cc

-- a search of an input of bytes, by an engine that reads forward
module _ {forward backward : EngineValue} {flag : Bool} (pair : IsPair forward backward flag) (asked : Asked)
    (start : has_start asked.anchored ≡ true) (within : asked.end ≤ length asked.haystack)
    (bytes : All (λ b. b < 256) asked.haystack) where
  abbrev nfa : Nfa
  nfa = forward.nfa

  abbrev text : Text
  text = text_of false asked

  small : All (λ b. b < 256) text.bytes
  small = All-take (λ b. b < 256) _ _ (All-drop (λ b. b < 256) asked.start asked.haystack bytes)

  text_is : text_of nfa.reverse asked ≡ text
  text_is = rw pair.reads_forward

  ending_of : asked.start ≤ asked.end → (found : Option HalfMatch)
      → IsPreferredMatch nfa (start_for nfa asked.anchored) text found
      → IsEnding nfa asked (option_map (in_haystack false asked) found)
  ending_of l found p =
      let (o, leftmost, e) = leftmost_of nfa text pair.prefix small asked.anchored found start p in record {
        match = option_map (moved asked.start) o;
        leftmost = leftmost_in nfa asked o l (rw (length-range asked within) at leftmost);
        is = grind arith;
      }

  -- a search forward finds the end of the leftmost match
  pub leftmost_end : (found : Option HalfMatch) → IsSearchResult nfa LeftmostFirst asked found
      → IsEnding nfa asked found
  unfolding last_in
  leftmost_end found s = by_cases (cases_lt asked.end asked.start)
      (λ l. record { match = None; leftmost = found_past nfa asked l; is = rw (lt-ltb _ _ l) at s.last })
      (λ l. found_within l found s)
    where
      found_within : asked.start ≤ asked.end → (found : Option HalfMatch)
          → IsSearchResult nfa LeftmostFirst asked found → IsEnding nfa asked found
      found_within l None s =
          ending_of l None (λ cs i y acc. s.none (le-ltb _ _ l) (cs, i, y, rw text_is acc))
      found_within l (Some h) s =
          let (cs, i, is, run) = s.preferred refl in
          let offset : h.offset ≡ asked.start + i = rw pair.reads_forward at is in
          let found : h ≡ record { pattern = h.pattern; offset = asked.start + i }
          = λ i. record { pattern = h.pattern; offset = offset i } in
          rw found (ending_of l (Some record { pattern = h.pattern; offset = i }) (cs, rw text_is at run))

  -- a search that returns finds some match if and only if there is a leftmost one
  pub found_in : {E : Type 0} (r : Result Bool E)
      → (is_done asked ≡ false → IfOk r (λ found. Decides found (HasMatch nfa asked)))
      → (is_done asked ≡ true → r ≡ Ok false) → IfOk r (λ found. Decides found (IsLeftmostIn nfa asked None → ⊥))
  found_in (Err x) d done = tt
  found_in (Ok found) d done = (
    λ f n. by_cases (cases_lt asked.end asked.start)
        (λ l. cc (f, done (lt-ltb _ _ l)))
        (λ l. let (cs, i, y, acc) = (d (le-ltb _ _ l)).0 f in
        let (k, low, ds, run) = begins_somewhere nfa text pair.prefix small asked.anchored cs i y start
        (rw text_is at acc) in
        none_in_text n l k (rw (length-range asked within) at low) ds i y run),
    λ some. by_test found (λ f. f) (λ f. absurd (some (none f))),
  )
    where
      none : found ≡ false → IsLeftmostIn nfa asked None
      none f = by_cases (cases_lt asked.end asked.start)
          (found_past nfa asked)
          (λ l. let e = ending_of l None (λ cs i y acc. false≢true
          (sym f ∙ (d (le-ltb _ _ l)).1 (cs, i, y, rw text_is acc))) in grind arith)

-- two engines of the same values are such a pair too
pub pair_kept : {f b g c : EngineValue} {flag : Bool} → IsPair f b flag → g ≡ f → c ≡ b → IsPair g c flag
pair_kept pair e d = rw (e, d) pair

-- what a search backward from the end of a match reads
abbrev pub before_end : List ℕ → ℕ → ℕ → Asked
before_end haystack start end = record { haystack = haystack; start = start; end = end; anchored = Yes }

-- the start of a range up to a match, in reverse, is the text up to there in the other direction
pub text-back : (asked : Asked) (j : ℕ) → asked.start + j ≤ asked.end → asked.end ≤ length asked.haystack
    → text_of true (before_end asked.haystack asked.start (asked.start + j)) ≡ turned (upto (text_of false asked) j)
text-back asked j l within =
    grind (arith, take-take, slice_get-take, slice_get-drop, or_some, slice_get_past, length-take, length-drop)

-- the first position from which a run accepts that ends here
record IsFirstStart (nfa : Nfa) (text : Text) (end k : ℕ) : Type 0 where
  order : k ≤ end
  choices : List ℕ
  pattern : ℕ
  accepts : AcceptsFrom nfa text k nfa.start_anchored choices end pattern
  first : (i : ℕ) (cs : List ℕ) (y : ℕ) → i ≤ end → AcceptsFrom nfa text i nfa.start_anchored cs end y → k ≤ i

-- a search backward from a position of a range
module _ {backward nfa : Nfa} (is : IsReverseOf backward nfa) (forward : nfa.reverse ≡ false) (asked : Asked) (j : ℕ)
    (within : asked.end ≤ length asked.haystack) (low : asked.start + j ≤ asked.end) where
  -- what it searches, and what it reads
  abbrev before : Asked
  before = before_end asked.haystack asked.start (asked.start + j)

  abbrev back : Text
  back = turned (upto (text_of false asked) j)

  inside : j ≤ length (slice_range asked.haystack asked.start asked.end)
  inside = omega (arith, length-range asked within)

  reads_back : backward.reverse ≡ true
  reads_back = rw (is.direction, forward)

  back_is : text_of backward.reverse before ≡ back
  back_is = rw reads_back (text-back asked j low within)

  -- each run that ends there is one backward from there
  turn : (k : ℕ) → k ≤ j → (cs : List ℕ) (y : ℕ) → AcceptsFrom nfa (text_of false asked) k nfa.start_anchored cs j y
      → (ds : List ℕ) × (x : ℕ)
      × Accepts backward (text_of backward.reverse before) backward.start_anchored ds (j - k) x
  turn k l cs y acc = rw back_is ((is.begins (text_of false asked) j k inside l).1 (cs, y, acc))

  -- so without a match none does
  none_back : IsSearchResult backward kinds.All before None → (k : ℕ) → k ≤ j → (cs : List ℕ) (y : ℕ)
      → AcceptsFrom nfa (text_of false asked) k nfa.start_anchored cs j y → ⊥
  none_back s k l cs y acc =
      let order : asked.start ≤ asked.start + j = omega arith in
      let (ds, x, run) = turn k l cs y acc in s.none (le-ltb _ _ order) (ds, j - k, x, run)

  -- and a match is the first start of one
  first_back : (h : HalfMatch) → IsSearchResult backward kinds.All before (Some h)
      → (k : ℕ) × (h.offset ≡ asked.start + k) × IsFirstStart nfa (text_of false asked) j k
  first_back h s =
      let (i, offset, (listed, far)) = s.farthest refl in
      let at : h.offset ≡ asked.start + j - i = rw reads_back at offset in
      let (cs, accepts) = (listed.1.accepted h.pattern).0 (0, omega arith, refl) in
      let acc : Accepts backward back backward.start_anchored cs i h.pattern = rw back_is at accepts in
      let size = (no_run_leaves_the_text backward backward.start_anchored back cs i).1 h.pattern acc in
      let high : i ≤ j = omega (arith, simp (length-reverse, length-take) at size) in
      let z : j - (j - i) ≡ i = omega arith in
      let (ds, y, run) = (is.begins (text_of false asked) j (j - i) inside (omega arith)).0
      (cs, h.pattern, rw z acc) in (
        j - i,
        omega arith,
        record {
          order = omega arith;
          choices = ds;
          pattern = y;
          accepts = run;
          first = λ k es x l acc.
              let (fs, v, run) = turn k l es x acc in omega (arith, far fs (j - k) v run);
        },
      )

-- the start of a leftmost match with this end
module _ {nfa : Nfa} {haystack : List ℕ} {start end : ℕ} {asked : Asked} {m : Match}
    (e : IsEnded nfa haystack start end asked m) where
  own : IsInText nfa asked m
  own = in_text e.leftmost

  lie : LiesIn asked m
  lie = lies nfa asked m (rw e.same e.within) e.leftmost

  -- what a search backward from its end searches
  same : before_end haystack start end ≡ before_end asked.haystack asked.start (asked.start + own.match.end)
  same = cc (e.same, e.starts, e.ends, own.end)

  high : asked.start + own.match.end ≤ asked.end
  high = omega (arith, own.end, lie.high)

  order : own.match.start ≤ own.match.end
  order = omega (arith, lie.order, own.start, own.end)

  -- the match begins at the first position from which a run accepts that ends with it
  begins_first : (k begin : ℕ) → begin ≡ asked.start + k → IsFirstStart nfa (text_of false asked) own.match.end k
      → m.start ≡ begin
  begins_first k begin at first =
      let late = first.first own.match.start own.leftmost.choices own.match.pattern order own.leftmost.accepts in
      by_cases (cases_lt k own.match.start)
      (λ l. absurd (own.leftmost.leftmost k l first.choices own.match.end first.pattern first.accepts))
      (λ l. omega (arith, at, own.start))

  module _ {backward : Nfa} (is : IsReverseOf backward nfa) (forward : nfa.reverse ≡ false) where
    -- it finds where the match begins
    pub some_found : IsSearchResult backward kinds.All (before_end haystack start end) None → ⊥
    some_found s = none_back is forward asked own.match.end (rw e.same e.within) high (rw same at s) own.match.start
        order own.leftmost.choices own.match.pattern own.leftmost.accepts

    pub begin_found : (h : HalfMatch) → IsSearchResult backward kinds.All (before_end haystack start end) (Some h)
        → m.start ≡ h.offset
    begin_found h s =
        let (k, at, first) = first_back is forward asked own.match.end (rw e.same e.within) high h (rw same at s) in
        begins_first k h.offset at first

-- a search backward of a whole range finds its start exactly where the whole range is a match
module _ {forward backward : EngineValue} {flag : Bool} (pair : IsPair forward backward flag) (asked : Asked)
    (within : asked.end ≤ length asked.haystack) where
  abbrev size : ℕ
  size = asked.end - asked.start

  whole_is : asked.start ≤ asked.end
      → record asked { anchored = Yes } ≡ before_end asked.haystack asked.start (asked.start + size)
  whole_is l = let end : asked.start + size ≡ asked.end = omega arith in rw end refl

  pub full_none : IsSearchResult backward.nfa kinds.All (record asked { anchored = Yes }) None
      → IsFullMatch forward.nfa asked → ⊥
  full_none s (l, cs, y, acc) = none_back pair.reverse pair.reads_forward asked size within (omega arith)
      (rw (whole_is l) at s) 0 (omega arith) cs y acc

  pub full_some : (h : HalfMatch) → IsSearchResult backward.nfa kinds.All (record asked { anchored = Yes }) (Some h)
      → (h.offset ≡ asked.start → IsFullMatch forward.nfa asked)
      × (IsFullMatch forward.nfa asked → h.offset ≡ asked.start)
  full_some h s =
      let l : asked.start ≤ asked.end = omega (arith, s.within) in
      let (k, at, first) = first_back pair.reverse pair.reads_forward asked size within (omega arith) h
      (rw (whole_is l) at s) in (
        λ e. let z : k ≡ 0 = omega arith in (l, first.choices, first.pattern, rw z at first.accepts),
        λ (_, cs, y, acc). omega (arith, first.first 0 cs y (omega arith) acc),
      )

-- the elements of a list of bytes
pub all_bytes : (xs : List ℕ) → ((i : ℕ) → Fits w8 (slice_index_or xs i 0)) → All (λ b. b < 256) xs
all_bytes xs h = All-from_get_or (λ b. b < 256) xs 0 (λ i l. (h i).fits)
